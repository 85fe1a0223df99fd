-- Which texts stand for which models with words of any width ("Btor2, BtorMC and Boolector 3.0", syntax). What `Spelling.antt` of `btor2text` says of a line is said
-- here too, but that a decimal constant may have any number of digits.
use Rattle.std.specs.Prelude.{◌≡◌, ℕ, List, [], ◌∷◌, ◌++◌, Some, IfSome, true, codes, decimal, map, All}
use Rattle.std.specs.Option.{option_to_list}
use Rattle.base.specs.Lines.{text_of_lines, IsLine}
use Rattle.btor2.specs.declared.item.Item.{Item}
use Rattle.btor2.specs.declared.item.Body.{Body}
use Rattle.btor2.specs.declared.item.Body.TheVariants as body
use Rattle.btor2.specs.Symbols.{is_symbol}
use Rattle.btor2text.specs.Tokens.{tokens}
use Rattle.btor2text.specs.Spelling.{SaysBody}
use Rattle.wide.specs.WideModels.{greatest_width, IsWideModel}
use Rattle.widetext.specs.Digits.{whole_signed}

-- tokens behind an id say a body
abbrev pub WideSaysBody : Body → List (List ℕ) → Type 0
WideSaysBody (body.Constd s v) form = (digits : List ℕ) × (form ≡ codes "constd" ∷ decimal s ∷ digits ∷ []) × (whole_signed digits ≡ Some v)
WideSaysBody b form = SaysBody b form

-- the tokens of a line spell an item: its id, its form, and its symbol where it has one, which is a symbol's bytes
pub record WideSpellsItem (line : List (List ℕ)) (x : Item) : Type 0 where
  pub form : List (List ℕ)
  pub tokens : line ≡ decimal x.id ∷ form ++ option_to_list x.symbol
  pub says : WideSaysBody x.body form
  pub symbol : IfSome x.symbol (λ bytes. is_symbol bytes ≡ true)

-- lines stand for items in order; a line without tokens stands for nothing
abbrev pub WideSpellsAll : List (List (List ℕ)) → List Item → Type 0
WideSpellsAll [] [] = Unit {0}
WideSpellsAll [] (x ∷ xs) = ⊥
WideSpellsAll ([] ∷ lines) xs = WideSpellsAll lines xs
WideSpellsAll ((token ∷ line) ∷ lines) [] = ⊥
WideSpellsAll ((token ∷ line) ∷ lines) (x ∷ xs) = WideSpellsItem (token ∷ line) x × WideSpellsAll lines xs

-- a text stands for a model: every line ends with byte 10, the lines with a token stand for the items in order, and no row refuses one
pub record StandsForWide (text : List ℕ) (items : List Item) : Type 0 where
  pub lines : List (List ℕ)
  pub whole : text ≡ text_of_lines lines
  pub each : All IsLine lines
  pub spelled : WideSpellsAll (map tokens lines) items
  pub well_formed : IsWideModel greatest_width items
