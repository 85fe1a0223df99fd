-- Which texts stand for which models ("Btor2, BtorMC and Boolector 3.0", syntax).
use Rattle.std.specs.Prelude.{◌≡◌, ℕ, ◌-◌, ◌^◌, ◌<◌, true, List, [], ◌∷◌, ◌++◌, length, Option, IfSome, codes, decimal, map, All}
use Rattle.std.specs.Fmt.{signed_decimal}
use Rattle.std.specs.Option.{option_to_list}
use Rattle.base.specs.Lines.{text_of_lines, IsLine}
use Rattle.btor2.specs.declared.item.Item.{Item}
use Rattle.btor2.specs.declared.item.Body.{Body}
use Rattle.btor2.specs.declared.item.Body.TheVariants as body
use Rattle.btor2.specs.Symbols.{is_symbol}
use Rattle.btor2.specs.Check.{IsWellFormed}
use Rattle.btor2text.specs.Digits.{IsNumber, last_digits}
use Rattle.btor2text.specs.Tokens.{tokens}
use Rattle.btor2text.specs.Words.{unary_name, binary_name}

-- the tokens of a form, behind the id, as the writer spells them
abbrev pub form_tokens : Body → List (List ℕ)
form_tokens (body.Sort n) = codes "sort" ∷ codes "bitvec" ∷ decimal n ∷ []
form_tokens (body.Input s) = codes "input" ∷ decimal s ∷ []
form_tokens (body.State s) = codes "state" ∷ decimal s ∷ []
form_tokens (body.Zero s) = codes "zero" ∷ decimal s ∷ []
form_tokens (body.One s) = codes "one" ∷ decimal s ∷ []
form_tokens (body.Ones s) = codes "ones" ∷ decimal s ∷ []
form_tokens (body.Const s d v) = codes "const" ∷ decimal s ∷ last_digits 2 d v ∷ []
form_tokens (body.Constd s v) = codes "constd" ∷ decimal s ∷ signed_decimal v ∷ []
form_tokens (body.Consth s d v) = codes "consth" ∷ decimal s ∷ last_digits 16 d v ∷ []
form_tokens (body.Uext s a w) = codes "uext" ∷ decimal s ∷ decimal a ∷ decimal w ∷ []
form_tokens (body.Sext s a w) = codes "sext" ∷ decimal s ∷ decimal a ∷ decimal w ∷ []
form_tokens (body.Slice s a u l) = codes "slice" ∷ decimal s ∷ decimal a ∷ decimal u ∷ decimal l ∷ []
form_tokens (body.Unary op s a) = unary_name op ∷ decimal s ∷ decimal a ∷ []
form_tokens (body.Binary op s a b) = binary_name op ∷ decimal s ∷ decimal a ∷ decimal b ∷ []
form_tokens (body.Concat s a b) = codes "concat" ∷ decimal s ∷ decimal a ∷ decimal b ∷ []
form_tokens (body.Ite s c t e) = codes "ite" ∷ decimal s ∷ decimal c ∷ decimal t ∷ decimal e ∷ []
form_tokens (body.Init s t v) = codes "init" ∷ decimal s ∷ decimal t ∷ decimal v ∷ []
form_tokens (body.Next s t v) = codes "next" ∷ decimal s ∷ decimal t ∷ decimal v ∷ []
form_tokens (body.Bad a) = codes "bad" ∷ decimal a ∷ []
form_tokens (body.Constraint a) = codes "constraint" ∷ decimal a ∷ []
form_tokens (body.Fair a) = codes "fair" ∷ decimal a ∷ []
form_tokens (body.Output a) = codes "output" ∷ decimal a ∷ []
form_tokens (body.Justice nodes) = codes "justice" ∷ decimal (length nodes) ∷ map decimal nodes

-- Tokens behind an id say a body: they are the form's. The digits of a binary or a hexadecimal constant are as many as
-- it keeps and write its number; hexadecimal ones are of either case. A justice line has less than 2 ^ 64 - 1 operands,
-- since 2 ^ 64 - 1 is read for all greater numbers too.
abbrev pub SaysBody : Body → List (List ℕ) → Type 0
SaysBody (body.Const s d v) form = (digits : List ℕ) × (form ≡ codes "const" ∷ decimal s ∷ digits ∷ []) × IsNumber 2 d v digits
SaysBody (body.Consth s d v) form = (digits : List ℕ) × (form ≡ codes "consth" ∷ decimal s ∷ digits ∷ []) × IsNumber 16 d v digits
SaysBody (body.Justice nodes) form = (form ≡ form_tokens (body.Justice nodes)) × (length nodes < 2 ^ 64 - 1)
SaysBody b form = form ≡ form_tokens b

-- the tokens of a line spell an item: its id, its form, and its symbol where it has one, which is a symbol's bytes
pub record SpellsItem (line : List (List ℕ)) (x : Item) : Type 0 where
  pub form : List (List ℕ)
  pub tokens : line ≡ decimal x.id ∷ form ++ option_to_list x.symbol
  pub says : SaysBody x.body form
  pub symbol : IfSome x.symbol (λ bytes. is_symbol bytes ≡ true)

-- lines stand for items in order; a line without tokens stands for nothing
abbrev pub SpellsAll : List (List (List ℕ)) → List Item → Type 0
SpellsAll [] [] = Unit {0}
SpellsAll [] (x ∷ xs) = ⊥
SpellsAll ([] ∷ lines) xs = SpellsAll lines xs
SpellsAll ((token ∷ line) ∷ lines) [] = ⊥
SpellsAll ((token ∷ line) ∷ lines) (x ∷ xs) = SpellsItem (token ∷ line) x × SpellsAll lines xs

-- a text stands for a model: every line ends with byte 10, the lines with a token stand for the items in order, and these are well formed
pub record StandsFor (text : List ℕ) (items : List Item) : Type 0 where
  pub lines : List (List ℕ)
  pub whole : text ≡ text_of_lines lines
  pub each : All IsLine lines
  pub spelled : SpellsAll (map tokens lines) items
  pub well_formed : IsWellFormed items

-- the bytes of a source, where it knows them, are a text of some items
abbrev pub IsModelOf : Option (List ℕ) → List Item → Type 0
IsModelOf known items = IfSome known (λ text. StandsFor text items)
