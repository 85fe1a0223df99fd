-- Reading a model's text from left to right, with the first fault that is met.
use Rattle.std.specs.Prelude.{◌≡◌, ℕ, zero, suc, ℤ, ◌+◌, ◌-◌, ◌^◌, min, Bool, false, List, [], ◌∷◌, ◌++◌, length, Option, Some, None, Result, Ok, Err, ◌==◌, nat_le, if◌then◌else◌, codes, ◌⊎◌}
use Rattle.std.specs.Str.{bytes_eq}
use Rattle.base.specs.Lines.{whole_lines, unfinished, line_after}
use Rattle.base.specs.Decimals.{is_decimal, number_of}
use Rattle.btor2.specs.declared.item.Item.{Item}
use Rattle.btor2.specs.declared.item.Body.{Body}
use Rattle.btor2.specs.declared.item.Body.TheVariants as body
use Rattle.btor2.specs.declared.fault.PushFault.{PushFault}
use Rattle.btor2.specs.declared.fault.PushFault.TheVariants as push
use Rattle.btor2.specs.Check.{refusal}
use Rattle.btor2.specs.Symbols.{is_symbol}
use Rattle.btor2text.specs.declared.fault.ReadFault.{ReadFault}
use Rattle.btor2text.specs.declared.fault.Why.{Why}
use Rattle.btor2text.specs.declared.fault.Why.TheVariants as why
use Rattle.btor2text.specs.declared.forms.Form.{Form}
use Rattle.btor2text.specs.declared.forms.Form.TheVariants as form
use Rattle.btor2text.specs.declared.forms.Leaf.{Leaf}
use Rattle.btor2text.specs.declared.forms.Leaf.TheVariants as leaf
use Rattle.btor2text.specs.declared.forms.Constant.{Constant}
use Rattle.btor2text.specs.declared.forms.Constant.TheVariants as constant
use Rattle.btor2text.specs.declared.forms.Extension.{Extension}
use Rattle.btor2text.specs.declared.forms.Extension.TheVariants as extension
use Rattle.btor2text.specs.declared.forms.Link.{Link}
use Rattle.btor2text.specs.declared.forms.Link.TheVariants as link
use Rattle.btor2text.specs.declared.forms.Property.{Property}
use Rattle.btor2text.specs.declared.forms.Property.TheVariants as property
use Rattle.btor2text.specs.Tokens.{tokens}
use Rattle.btor2text.specs.Words.{form_of}
use Rattle.btor2text.specs.Digits.{number_in, signed_number, kept_count, kept_value}

-- `-` and a decimal
unfoldable pub is_negative : List ℕ → Bool
is_negative [] = false
is_negative (b ∷ bs) = if b == 45 then is_decimal bs else false

-- ---- whys

-- what a value gives to the next step; the first why ends all steps
infixl 10 ◌>>=◌
abbrev pub ◌>>=◌ : {A B : Type 0} → Result A Why → (A → Result B Why) → Result B Why
(Ok x) >>= f = f x
(Err e) >>= f = Err e

-- what a function returned, seen by view, is what reading gives
abbrev pub IsAsLineRead : {X Y : Type 0} → (X → Y) → Result X Why → Result Y Why → Type 0
IsAsLineRead view (Ok x) read = read ≡ Ok (view x)
IsAsLineRead view (Err e) read = read ≡ Err e

-- the same, unless memory ran out
abbrev pub GivesUnlessFull : {X Y : Type 0} → (X → Y) → Result X Why → Result Y Why → Type 0
GivesUnlessFull view (Ok x) read = read ≡ Ok (view x)
GivesUnlessFull view (Err e) read = (e ≡ why.NoMemory) ⊎ (read ≡ Err e)

-- ---- tokens in their places: each answers a value and the tokens that follow

-- tokens, each a list of bytes
abbrev pub Tokens : Type 0
Tokens = List (List ℕ)

-- what a token of its place's form says, or the why where it is none
abbrev pub some_of : {A : Type 0} → Option A → Result A Why
some_of (Some x) = Ok x
some_of None = Err why.BadToken

-- the number of a token in a plain place: the line's own id, a sort or a width
unfoldable pub plain_number : List ℕ → Result ℕ Why
plain_number token = some_of (number_of token)

-- the number of an operand's place, or its why where there is none: `-` and a decimal has a why of its own
abbrev pub operand_of : Bool → Option ℕ → Result ℕ Why
operand_of negative (Some n) = Ok n
operand_of negative None = if negative then Err why.NegativeOperand else Err why.BadToken

-- the number of a token in an operand's place
unfoldable pub operand : List ℕ → Result ℕ Why
operand token = operand_of (is_negative token) (number_of token)

-- a plain number, and the tokens behind it
unfoldable pub plain_at : Tokens → Result (ℕ × Tokens) Why
plain_at [] = Err why.BadToken
plain_at (token ∷ rest) = do
  n ← plain_number token
  Ok (n, rest)

-- The id that an item keeps of a number: ids have 32 bits, and a number above the greatest id is kept as 0. No item
-- has the id 0, since a push refuses it, so 0 names no earlier sort and no earlier node, as the number itself does.
unfoldable pub kept_id : ℕ → ℕ
kept_id n = if nat_le n 4294967295 then n else 0

-- The bit that a slice keeps of a number: bits have 32 bits too, and a number above the greatest of these is kept as that one. No node has a
-- bit above 63, so a push refuses it as it would the number itself.
unfoldable pub kept_slice_bit : ℕ → ℕ
kept_slice_bit n = min n 4294967295

-- the id of a sort, and the tokens behind it
unfoldable pub sort_at : Tokens → Result (ℕ × Tokens) Why
sort_at tokens = do
  x ← plain_at tokens
  Ok (kept_id x.0, x.1)

-- the id of an operand, and the tokens behind it
unfoldable pub operand_at : Tokens → Result (ℕ × Tokens) Why
operand_at [] = Err why.BadToken
operand_at (token ∷ rest) = do
  n ← operand token
  Ok (kept_id n, rest)

-- a bound of a slice, and the tokens behind it
unfoldable pub bit_at : Tokens → Result (ℕ × Tokens) Why
bit_at tokens = do
  x ← plain_at tokens
  Ok (kept_slice_bit x.0, x.1)

-- the width that the tokens behind `sort` say, and the tokens behind it
unfoldable pub width_told : Tokens → Result (ℕ × Tokens) Why
width_told [] = Err why.BadToken
width_told (token ∷ rest) = if bytes_eq token (codes "bitvec") then plain_at rest else (if bytes_eq token (codes "array") then Err why.ArraySort else Err why.BadToken)

-- a sort and an operand, and the tokens behind them
unfoldable pub pair_at : Tokens → Result (ℕ × ℕ × Tokens) Why
pair_at tokens = do
  s ← sort_at tokens
  a ← operand_at s.1
  Ok (s.0, a.0, a.1)

-- a sort and two operands, and the tokens behind them
unfoldable pub triple_at : Tokens → Result (ℕ × ℕ × ℕ × Tokens) Why
triple_at tokens = do
  s ← sort_at tokens
  a ← operand_at s.1
  b ← operand_at a.1
  Ok (s.0, a.0, b.0, b.1)

-- the digits of a constant, of which a word takes so many at most: how many are kept, their number, and the tokens behind them
unfoldable pub digits_at : ℕ → ℕ → Tokens → Result (ℕ × ℕ × Tokens) Why
digits_at radix most [] = Err why.BadToken
digits_at radix most (token ∷ rest) = do
  v ← some_of (number_in radix token)
  Ok (kept_count most (length token), kept_value most (length token) v, rest)

-- a decimal that may be negative, and the tokens behind it
unfoldable pub signed_at : Tokens → Result (ℤ × Tokens) Why
signed_at [] = Err why.BadToken
signed_at (token ∷ rest) = do
  v ← some_of (signed_number token)
  Ok (v, rest)

-- so many operands, and the tokens behind them
unfoldable pub operands_at : ℕ → Tokens → Result (List ℕ × Tokens) Why
operands_at zero tokens = Ok ([], tokens)
operands_at (suc n) tokens = do
  a ← operand_at tokens
  more ← operands_at n a.1
  Ok (a.0 ∷ more.0, more.1)

-- how many operands there are, they themselves, and the tokens behind them; 2 ^ 64 - 1 stands for all greater numbers too, and no line has so many
unfoldable pub counted_at : Tokens → Result (List ℕ × Tokens) Why
counted_at tokens = do
  k ← plain_at tokens
  a ← operands_at k.0 k.1
  if k.0 == 2 ^ 64 - 1 then Err why.BadToken else Ok a

-- a form, and the tokens behind its word
unfoldable pub form_at : Tokens → Result (Form × Tokens) Why
form_at [] = Err why.BadToken
form_at (word ∷ rest) = do
  f ← form_of word
  Ok (f, rest)

-- the bodies of the forms of a group
abbrev pub leaf_body : Leaf → ℕ → Body
leaf_body leaf.Input s = body.Input s
leaf_body leaf.State s = body.State s
leaf_body leaf.Zero s = body.Zero s
leaf_body leaf.One s = body.One s
leaf_body leaf.Ones s = body.Ones s

abbrev pub extension_body : Extension → ℕ → ℕ → ℕ → Body
extension_body extension.Uext s a by = body.Uext s a by
extension_body extension.Sext s a by = body.Sext s a by

abbrev pub link_body : Link → ℕ → ℕ → ℕ → Body
link_body link.Init s t v = body.Init s t v
link_body link.Next s t v = body.Next s t v

abbrev pub property_body : Property → ℕ → Body
property_body property.Bad a = body.Bad a
property_body property.Constraint a = body.Constraint a
property_body property.Fair a = body.Fair a
property_body property.Output a = body.Output a

-- what the tokens behind a constant's word say, and the tokens behind them
unfoldable pub constant_told : Constant → Tokens → Result (Body × Tokens) Why
constant_told constant.Const tokens = do
  s ← sort_at tokens
  x ← digits_at 2 64 s.1
  Ok (body.Const s.0 x.0 x.1, x.2)
constant_told constant.Constd tokens = do
  s ← sort_at tokens
  x ← signed_at s.1
  Ok (body.Constd s.0 x.0, x.1)
constant_told constant.Consth tokens = do
  s ← sort_at tokens
  x ← digits_at 16 16 s.1
  Ok (body.Consth s.0 x.0 x.1, x.2)

-- what the tokens behind `justice` say, and the tokens behind them
abbrev pub justice_at : Tokens → Result (Body × Tokens) Why
justice_at tokens = do
  x ← counted_at tokens
  Ok (body.Justice x.0, x.1)

-- what the tokens behind a form's word say, and the tokens behind them
unfoldable pub body_at : Form → Tokens → Result (Body × Tokens) Why
body_at form.Sort tokens = do
  x ← width_told tokens
  Ok (body.Sort x.0, x.1)
body_at (form.Leaf l) tokens = do
  x ← sort_at tokens
  Ok (leaf_body l x.0, x.1)
body_at (form.Constant c) tokens = constant_told c tokens
body_at (form.Extension e) tokens = do
  x ← pair_at tokens
  w ← plain_at x.2
  Ok (extension_body e x.0 x.1 w.0, w.1)
body_at form.Slice tokens = do
  x ← pair_at tokens
  u ← bit_at x.2
  l ← bit_at u.1
  Ok (body.Slice x.0 x.1 u.0 l.0, l.1)
body_at (form.Unary op) tokens = do
  x ← pair_at tokens
  Ok (body.Unary op x.0 x.1, x.2)
body_at (form.Binary op) tokens = do
  x ← triple_at tokens
  Ok (body.Binary op x.0 x.1 x.2, x.3)
body_at form.Concat tokens = do
  x ← triple_at tokens
  Ok (body.Concat x.0 x.1 x.2, x.3)
body_at form.Ite tokens = do
  x ← triple_at tokens
  e ← operand_at x.3
  Ok (body.Ite x.0 x.1 x.2 e.0, e.1)
body_at (form.Link l) tokens = do
  x ← triple_at tokens
  Ok (link_body l x.0 x.1 x.2, x.3)
body_at (form.Property p) tokens = do
  x ← operand_at tokens
  Ok (property_body p x.0, x.1)
body_at form.Justice tokens = justice_at tokens

-- the symbol, which no token follows
abbrev pub symbol_end : List ℕ → Tokens → Result (Option (List ℕ)) Why
symbol_end symbol [] = Ok (Some symbol)
symbol_end symbol (token ∷ rest) = Err why.BadToken

-- the symbol at a line's end, where there is one
unfoldable pub symbol_at : Tokens → Result (Option (List ℕ)) Why
symbol_at [] = Ok None
symbol_at (token ∷ rest) = if is_symbol token then symbol_end token rest else Err why.BadSymbol

-- ---- lines

-- the item that a line's tokens spell
unfoldable pub item_at : Tokens → Result Item Why
item_at tokens = do
  id ← plain_at tokens
  f ← form_at id.1
  b ← body_at f.0 f.1
  symbol ← symbol_at b.1
  Ok (record { id = id.0; symbol = symbol; body = b.0 })

-- the why of a refusal; a constant that does not fit has one of its own
abbrev pub refused_why : PushFault → Why
refused_why push.ConstantDoesNotFit = why.ConstantDoesNotFit
refused_why f = why.Refused f

-- the items with one more, where it is not refused
abbrev pub item_accepted : List Item → Item → Option PushFault → Result (List Item) Why
item_accepted before x None = Ok (before ++ x ∷ [])
item_accepted before x (Some f) = Err (refused_why f)

-- the items after one more line
unfoldable pub line_on : List Item → Tokens → Result (List Item) Why
line_on before [] = Ok before
line_on before (first ∷ rest) = do
  x ← item_at (first ∷ rest)
  item_accepted before x (refusal before x)

-- ---- texts

-- a why at a line
abbrev pub line_fault : ℕ → Why → ReadFault
line_fault n e = record { line = n; why = e }

-- what a line gave, and then the lines behind it; its fault is told with its number
abbrev pub then_lines : ℕ → Result (List Item) Why → (List Item → Result (List Item) ReadFault) → Result (List Item) ReadFault
then_lines n (Ok items) others = others items
then_lines n (Err e) others = Err (line_fault n e)

-- what line n + 1 and those after it give behind some items; the last has no byte 10
unfoldable pub lines_on : ℕ → List Item → List (List ℕ) → List ℕ → Result (List Item) ReadFault
lines_on n before [] [] = Ok before
lines_on n before [] (b ∷ bs) = Err (line_fault (line_after n) why.Unfinished)
lines_on n before (line ∷ lines) last = then_lines (line_after n) (line_on before (tokens line)) (λ items. lines_on (line_after n) items lines last)

-- the items that a text spells, or its fault
unfoldable pub text_on : List ℕ → Result (List Item) ReadFault
text_on text = lines_on 0 [] (whole_lines text) (unfinished text)

-- a line was read onto a model, unless memory ran out
abbrev pub ReadsLine : Result (Unit {0}) Why → List Item → Result (List Item) Why → Type 0
ReadsLine (Ok u) items read = read ≡ Ok items
ReadsLine (Err e) items read = (e ≡ why.NoMemory) ⊎ (read ≡ Err e)

-- a text that stands for items was read as them, where neither the device failed nor memory ran out
abbrev pub ReadsAs : Result (List Item) ReadFault → List Item → Type 0
ReadsAs (Ok model) items = model ≡ items
ReadsAs (Err e) items = (e.why ≡ why.Device) ⊎ (e.why ≡ why.NoMemory)
