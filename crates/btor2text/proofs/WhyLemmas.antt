-- What is wrong with a text is never the device or memory.
use Rattle.std.proofs.Common.{◌≡◌, subst, ℕ, zero, suc, ◌-◌, ◌^◌, ◌==◌, Bool, true, false, cond, List, [], ◌∷◌, Option, Some, None, Result, Ok, Err}
use Rattle.std.specs.Str.{bytes_eq}
use Rattle.std.specs.Prelude.{codes, ◌||◌}
use Rattle.base.specs.Decimals.{number_of}
use Rattle.btor2.specs.declared.item.Item.{Item}
use Rattle.btor2.specs.declared.item.Body.TheVariants as body
use Rattle.btor2.specs.declared.fault.PushFault.{PushFault}
use Rattle.btor2.specs.declared.fault.PushFault.TheVariants as push
use Rattle.btor2.specs.Symbols.{is_symbol}
use Rattle.btor2.specs.Check.{refusal}
use Rattle.btor2text.specs.declared.fault.Why.{Why}
use Rattle.btor2text.specs.declared.fault.Why.TheVariants as why
use Rattle.btor2text.specs.declared.forms.Form.{Form}
use Rattle.btor2text.specs.declared.forms.Form.TheVariants as form
use Rattle.btor2text.specs.declared.forms.Constant.{Constant}
use Rattle.btor2text.specs.declared.forms.Constant.TheVariants as constant
use Rattle.btor2text.specs.Tokens.{tokens}
use Rattle.btor2text.specs.Words.{form_named, no_form, known_form, form_of}
use Rattle.btor2text.specs.Digits.{number_in, signed_number}
use Rattle.btor2text.specs.Reading.{◌>>=◌, Tokens, is_negative, some_of, operand_of, plain_number, operand, plain_at, kept_id, kept_slice_bit, sort_at, bit_at, operand_at, width_told, pair_at, triple_at, digits_at, signed_at, operands_at, counted_at, constant_told, extension_body, form_at, body_at, symbol_end, symbol_at, item_at, refused_why, item_accepted, line_on}

-- a why of a text
abbrev pub IsOfText : Why → Type 0
IsOfText why.Device = ⊥
IsOfText why.NoMemory = ⊥
IsOfText w = Unit {0}

-- it is none of the device
pub not_device : (w : Why) → IsOfText w → w ≡ why.Device → ⊥
not_device w h is = subst IsOfText is h

-- a step that answers only such whys
abbrev pub Told : {A : Type 0} → Result A Why → Type 0
Told (Ok x) = Unit {0}
Told (Err w) = IsOfText w

told_bind : {A B : Type 0} (r : Result A Why) (f : A → Result B Why) → Told r → ((x : A) → Told (f x)) → Told (r >>= f)
told_bind (Ok x) f h k = k x
told_bind (Err w) f h k = h

told_if : {A : Type 0} (b : Bool) (r s : Result A Why) → Told r → Told s → Told (cond b r s)
told_if true r s h k = h
told_if false r s h k = k

some_told : {A : Type 0} (o : Option A) → Told (some_of o)
some_told (Some x) = tt
some_told None = tt

operand_of_told : (negative : Bool) (o : Option ℕ) → Told (operand_of negative o)
operand_of_told negative (Some n) = tt
operand_of_told true None = tt
operand_of_told false None = tt

plain_told : (token : List ℕ) → Told (plain_number token)
unfolding plain_number
plain_told token = some_told (number_of token)

operand_told : (token : List ℕ) → Told (operand token)
unfolding operand
operand_told token = operand_of_told (is_negative token) (number_of token)

plain_at_told : (tokens : Tokens) → Told (plain_at tokens)
unfolding plain_at
plain_at_told [] = tt
plain_at_told (token ∷ rest) = told_bind (plain_number token) (λ n. Ok (n, rest)) (plain_told token) (λ _. tt)

sort_at_told : (tokens : Tokens) → Told (sort_at tokens)
unfolding sort_at
sort_at_told tokens = told_bind (plain_at tokens) (λ x. Ok (kept_id x.0, x.1)) (plain_at_told tokens) (λ _. tt)

bit_at_told : (tokens : Tokens) → Told (bit_at tokens)
unfolding bit_at
bit_at_told tokens = told_bind (plain_at tokens) (λ x. Ok (kept_slice_bit x.0, x.1)) (plain_at_told tokens) (λ _. tt)

operand_at_told : (tokens : Tokens) → Told (operand_at tokens)
unfolding operand_at
operand_at_told [] = tt
operand_at_told (token ∷ rest) = told_bind (operand token) (λ n. Ok (kept_id n, rest)) (operand_told token) (λ _. tt)

width_at_told : (tokens : Tokens) → Told (width_told tokens)
unfolding width_told
width_at_told [] = tt
width_at_told (token ∷ rest) = told_if (bytes_eq token (codes "bitvec")) (plain_at rest) (cond (bytes_eq token (codes "array")) (Err why.ArraySort) (Err why.BadToken)) (plain_at_told rest) (told_if (bytes_eq token (codes "array")) (Err why.ArraySort) (Err why.BadToken) tt tt)

pair_at_told : (tokens : Tokens) → Told (pair_at tokens)
unfolding pair_at
pair_at_told tokens = told_bind (sort_at tokens) _ (sort_at_told tokens) (λ s. told_bind (operand_at s.1) (λ a. Ok (s.0, a.0, a.1)) (operand_at_told s.1) (λ _. tt))

triple_at_told : (tokens : Tokens) → Told (triple_at tokens)
unfolding triple_at
triple_at_told tokens =
    told_bind (sort_at tokens) (λ s. operand_at s.1 >>= λ a. operand_at a.1 >>= λ b. Ok (s.0, a.0, b.0, b.1)) (sort_at_told tokens) (λ s.
    told_bind (operand_at s.1) (λ a. operand_at a.1 >>= λ b. Ok (s.0, a.0, b.0, b.1)) (operand_at_told s.1) (λ a.
    told_bind (operand_at a.1) (λ b. Ok (s.0, a.0, b.0, b.1)) (operand_at_told a.1) (λ _. tt)))

no_form_told : (word : List ℕ) → IsOfText (no_form word)
unfolding no_form
no_form_told word = elim (bytes_eq word (codes "read") || bytes_eq word (codes "write")) as (λ b. IsOfText (cond b why.ArrayOperator why.UnknownOperator)) [ true ↦ tt | false ↦ tt ]

known_form_told : (word : List ℕ) (o : Option Form) → Told (known_form word o)
known_form_told word None = no_form_told word
known_form_told word (Some f) = tt

form_told : (word : List ℕ) → Told (form_of word)
unfolding form_of
form_told word = known_form_told word (form_named word)

form_at_told : (tokens : Tokens) → Told (form_at tokens)
unfolding form_at
form_at_told [] = tt
form_at_told (word ∷ rest) = told_bind (form_of word) (λ f. Ok (f, rest)) (form_told word) (λ _. tt)

digits_at_told : (radix most : ℕ) (tokens : Tokens) → Told (digits_at radix most tokens)
unfolding digits_at
digits_at_told radix most [] = tt
digits_at_told radix most (token ∷ rest) = told_bind (some_of (number_in radix token)) _ (some_told (number_in radix token)) (λ _. tt)

signed_at_told : (tokens : Tokens) → Told (signed_at tokens)
unfolding signed_at
signed_at_told [] = tt
signed_at_told (token ∷ rest) = told_bind (some_of (signed_number token)) _ (some_told (signed_number token)) (λ _. tt)

operands_at_told : (n : ℕ) (tokens : Tokens) → Told (operands_at n tokens)
unfolding operands_at
operands_at_told zero tokens = tt
operands_at_told (suc n) tokens =
    told_bind (operand_at tokens) _ (operand_at_told tokens) (λ a.
    told_bind (operands_at n a.1) (λ more. Ok (a.0 ∷ more.0, more.1)) (operands_at_told n a.1) (λ _. tt))

counted_at_told : (tokens : Tokens) → Told (counted_at tokens)
unfolding counted_at
counted_at_told tokens =
    told_bind (plain_at tokens) _ (plain_at_told tokens) (λ k.
    told_bind (operands_at k.0 k.1) (λ a. cond (k.0 == 2 ^ 64 - 1) (Err why.BadToken) (Ok a)) (operands_at_told k.0 k.1) (λ a.
    told_if (k.0 == 2 ^ 64 - 1) (Err why.BadToken) (Ok a) tt tt))

constant_at_told : (c : Constant) (tokens : Tokens) → Told (constant_told c tokens)
unfolding constant_told
constant_at_told constant.Const tokens =
    told_bind (sort_at tokens) _ (sort_at_told tokens) (λ s. told_bind (digits_at 2 64 s.1) (λ x. Ok (body.Const s.0 x.0 x.1, x.2)) (digits_at_told 2 64 s.1) (λ _. tt))
constant_at_told constant.Constd tokens =
    told_bind (sort_at tokens) _ (sort_at_told tokens) (λ s. told_bind (signed_at s.1) (λ x. Ok (body.Constd s.0 x.0, x.1)) (signed_at_told s.1) (λ _. tt))
constant_at_told constant.Consth tokens =
    told_bind (sort_at tokens) _ (sort_at_told tokens) (λ s. told_bind (digits_at 16 16 s.1) (λ x. Ok (body.Consth s.0 x.0 x.1, x.2)) (digits_at_told 16 16 s.1) (λ _. tt))

body_at_told : (f : Form) (tokens : Tokens) → Told (body_at f tokens)
unfolding body_at
body_at_told form.Sort tokens = told_bind (width_told tokens) _ (width_at_told tokens) (λ _. tt)
body_at_told (form.Leaf l) tokens = told_bind (sort_at tokens) _ (sort_at_told tokens) (λ _. tt)
body_at_told (form.Constant c) tokens = constant_at_told c tokens
body_at_told (form.Extension e) tokens =
    told_bind (pair_at tokens) _ (pair_at_told tokens) (λ x. told_bind (plain_at x.2) (λ w. Ok (extension_body e x.0 x.1 w.0, w.1)) (plain_at_told x.2) (λ _. tt))
body_at_told form.Slice tokens =
    told_bind (pair_at tokens) _ (pair_at_told tokens) (λ x.
    told_bind (bit_at x.2) (λ u. bit_at u.1 >>= λ l. Ok (body.Slice x.0 x.1 u.0 l.0, l.1)) (bit_at_told x.2) (λ u.
    told_bind (bit_at u.1) (λ l. Ok (body.Slice x.0 x.1 u.0 l.0, l.1)) (bit_at_told u.1) (λ _. tt)))
body_at_told (form.Unary op) tokens = told_bind (pair_at tokens) _ (pair_at_told tokens) (λ _. tt)
body_at_told (form.Binary op) tokens = told_bind (triple_at tokens) _ (triple_at_told tokens) (λ _. tt)
body_at_told form.Concat tokens = told_bind (triple_at tokens) _ (triple_at_told tokens) (λ _. tt)
body_at_told form.Ite tokens =
    told_bind (triple_at tokens) _ (triple_at_told tokens) (λ x. told_bind (operand_at x.3) (λ e. Ok (body.Ite x.0 x.1 x.2 e.0, e.1)) (operand_at_told x.3) (λ _. tt))
body_at_told (form.Link l) tokens = told_bind (triple_at tokens) _ (triple_at_told tokens) (λ _. tt)
body_at_told (form.Property p) tokens = told_bind (operand_at tokens) _ (operand_at_told tokens) (λ _. tt)
body_at_told form.Justice tokens = told_bind (counted_at tokens) _ (counted_at_told tokens) (λ _. tt)

symbol_end_told : (symbol : List ℕ) (rest : Tokens) → Told (symbol_end symbol rest)
symbol_end_told symbol [] = tt
symbol_end_told symbol (token ∷ rest) = tt

symbol_at_told : (tokens : Tokens) → Told (symbol_at tokens)
unfolding symbol_at
symbol_at_told [] = tt
symbol_at_told (token ∷ rest) = told_if (is_symbol token) (symbol_end token rest) (Err why.BadSymbol) (symbol_end_told token rest) tt

item_at_told : (tokens : Tokens) → Told (item_at tokens)
unfolding item_at
item_at_told tokens =
    told_bind (plain_at tokens) _ (plain_at_told tokens) (λ id.
    told_bind (form_at id.1) _ (form_at_told id.1) (λ f.
    told_bind (body_at f.0 f.1) _ (body_at_told f.0 f.1) (λ b.
    told_bind (symbol_at b.1) _ (symbol_at_told b.1) (λ _. tt))))

refused_told : (f : PushFault) → IsOfText (refused_why f)
refused_told push.ConstantDoesNotFit = tt
refused_told _ = tt

accepted_told : (before : List Item) (x : Item) (r : Option PushFault) → Told (item_accepted before x r)
accepted_told before x None = tt
accepted_told before x (Some f) = refused_told f

pub line_on_told : (before : List Item) (line : Tokens) → Told (line_on before line)
unfolding line_on
line_on_told before [] = tt
line_on_told before (first ∷ rest) = told_bind (item_at (first ∷ rest)) _ (item_at_told (first ∷ rest)) (λ x. accepted_told before x (refusal before x))
