-- Which texts stand for which models of the whole safety language ("Btor2, BtorMC and Boolector 3.0", syntax).
use Rattle.std.specs.Prelude.{◌≡◌, ℕ, Bool, true, List, [], ◌∷◌, ◌++◌, length, IfSome, codes, decimal, map, All}
use Rattle.std.specs.List.{list_any}
use Rattle.std.specs.Option.{option_to_list}
use Rattle.base.specs.Lines.{text_of_lines, IsLine}
use Rattle.btor2.specs.declared.item.Body.{Body}
use Rattle.btor2.specs.declared.item.Body.TheVariants as body
use Rattle.btor2.specs.Items.{operands}
use Rattle.btor2.specs.Symbols.{is_symbol}
use Rattle.btor2text.specs.Tokens.{tokens}
use Rattle.btor2text.specs.Reading.{Tokens}
use Rattle.widetext.specs.Spelling.{WideSaysBody}
use Rattle.full.specs.Lines.{Operand, Says, form, array_sort, read, write, FullLine}
use Rattle.fullmodel.specs.FullModels.{IsAccepted}
use Rattle.fulltext.specs.Signs.{with_sign, signed_behind}

-- the token of an operand
abbrev pub operand_token : Operand → List ℕ
operand_token o = with_sign o.minus (decimal o.id)

-- how many tokens of a form stand before those of its operands: its word, and its sort or how many operands there are
abbrev pub tokens_before : Body → ℕ
tokens_before (body.Bad a) = 1
tokens_before (body.Constraint a) = 1
tokens_before (body.Fair a) = 1
tokens_before (body.Output a) = 1
tokens_before b = 2

-- minuses of so many operands: of each whether it has one, where one has
abbrev pub AreSigns : ℕ → List Bool → Type 0
AreSigns n [] = Unit {0}
AreSigns n (m ∷ ms) = (length (m ∷ ms) ≡ n) × (list_any (λ (s : Bool). s) (m ∷ ms) ≡ true)

-- the tokens behind the id of a line that is no form
abbrev pub array_tokens : Says → Tokens
array_tokens (form b ms) = []
array_tokens (array_sort index element) = codes "sort" ∷ codes "array" ∷ decimal index ∷ decimal element ∷ []
array_tokens (read s array index) = codes "read" ∷ decimal s ∷ decimal array ∷ operand_token index ∷ []
array_tokens (write s array index word) = codes "write" ∷ decimal s ∷ decimal array ∷ operand_token index ∷ operand_token word ∷ []

-- tokens behind an id say what a line says: those of a form without minuses, and `-` before each operand that has one
abbrev pub SaysLine : Says → Tokens → Type 0
SaysLine (form b ms) tokens = (plain : Tokens) × (tokens ≡ signed_behind (tokens_before b) ms plain) × WideSaysBody b plain × AreSigns (length (operands b)) ms
SaysLine b tokens = tokens ≡ array_tokens b

-- the tokens of a line spell a line of a model: its id, what it says, and its symbol where it has one, which is a symbol's bytes
pub record SpellsLine (line : Tokens) (x : FullLine) : Type 0 where
  pub form : Tokens
  pub tokens : line ≡ decimal x.id ∷ form ++ option_to_list x.symbol
  pub says : SaysLine x.says form
  pub symbol : IfSome x.symbol (λ bytes. is_symbol bytes ≡ true)

-- lines of a text stand for those of a model in order; a line without tokens stands for nothing
abbrev pub SpellsLines : List Tokens → List FullLine → Type 0
SpellsLines [] [] = Unit {0}
SpellsLines [] (x ∷ xs) = ⊥
SpellsLines ([] ∷ lines) xs = SpellsLines lines xs
SpellsLines ((token ∷ line) ∷ lines) [] = ⊥
SpellsLines ((token ∷ line) ∷ lines) (x ∷ xs) = SpellsLine (token ∷ line) x × SpellsLines lines xs

-- a text stands for a model: every line ends with byte 10, the lines with a token stand for the model's in order, and no row refuses one
pub record StandsForFull (text : List ℕ) (items : List FullLine) : Type 0 where
  pub lines : List (List ℕ)
  pub whole : text ≡ text_of_lines lines
  pub each : All IsLine lines
  pub spelled : SpellsLines (map tokens lines) items
  pub accepted : IsAccepted items
