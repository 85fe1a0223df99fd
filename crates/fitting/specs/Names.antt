-- The names of pieces. A piece of a word of more than 64 bits is named after the word, with its upper and its lower bit in brackets: `x[127:64]`.
-- Where that would be longer than a symbol may be, the word's name is cut.
use Rattle.std.specs.Prelude.{◌≡◌, ℕ, ◌+◌, ◌-◌, Bool, true, ◌||◌, List, [], ◌∷◌, ◌++◌, map, flat_map, length, take, decimal, Option, Some, None}
use Rattle.std.specs.List.{AllByRecursion, AllZip}
use Rattle.btor2.specs.declared.item.Item.{Item}
use Rattle.btor2.specs.declared.item.Body.{Body}
use Rattle.btor2.specs.Items.{find_item, operands, is_input, is_state, is_bad, is_constraint}
use Rattle.btor2.specs.Lists.{of_kind}
use Rattle.btor2.specs.Trace.{bits_of}
use Rattle.fit.specs.Fitting.{Layout, is_output}

-- the greatest number of bytes of a symbol
abbrev pub most_bytes : ℕ
most_bytes = 255

-- `[u:l]`
abbrev pub range_text : ℕ → ℕ → List ℕ
range_text upper lower = 91 ∷ decimal upper ++ 58 ∷ decimal lower ++ 93 ∷ []

-- a name in front of such a range
abbrev pub with_range : List ℕ → List ℕ → List ℕ
with_range name range = take (most_bytes - length range) name ++ range

abbrev pub piece_name : List ℕ → ℕ → ℕ → List ℕ
piece_name name upper lower = with_range name (range_text upper lower)

-- the name of a piece of so many bits from a lowest one on, where the word has a name
abbrev pub piece_symbol : Option (List ℕ) → ℕ → ℕ → Option (List ℕ)
piece_symbol None lower width = None
piece_symbol (Some name) lower width = Some (piece_name name (lower + width - 1) lower)

-- the names of pieces by their widths, the lowest first
abbrev pub names_from : Option (List ℕ) → ℕ → List ℕ → List (Option (List ℕ))
names_from symbol lower [] = []
names_from symbol lower (w ∷ ws) = piece_symbol symbol lower w ∷ names_from symbol (lower + w) ws

-- those of all pieces of a word: one piece has the word's name
abbrev pub word_names : Option (List ℕ) → List ℕ → List (Option (List ℕ))
word_names symbol (w ∷ []) = symbol ∷ []
word_names symbol ws = names_from symbol 0 ws

-- the node with an id has a name, or none
abbrev pub IsNamed : List Item → ℕ → Option (List ℕ) → Type 0
IsNamed items id symbol = (y : Item) × (find_item items id ≡ Some y) × (y.symbol ≡ symbol)

-- the names of the pieces of the nodes that a line shows, by the widths of the pieces of each node
abbrev pub shown_names : (ℕ → List ℕ) → Item → List (Option (List ℕ))
shown_names pieces x = flat_map (λ a. word_names x.symbol (pieces a)) (operands x.body)

-- the names of the lines of a kind, in file order
abbrev pub names_of : (Body → Bool) → List Item → List (Option (List ℕ))
names_of kind items = map (λ x. x.symbol) (of_kind kind items)

-- the widths of the pieces of a node
abbrev pub piece_widths : Layout → List Item → ℕ → List ℕ
piece_widths layout narrow id = map (bits_of narrow) (layout id)

abbrev pub LeafIsNamed : Layout → List Item → Item → Type 0
LeafIsNamed layout narrow x = (is_input x.body || is_state x.body) ≡ true → AllZip (IsNamed narrow) (layout x.id) (word_names x.symbol (piece_widths layout narrow x.id))

-- A list is fitted by a layout into one whose lines have the names of the pieces: each piece of a leaf, and the outputs of the pieces of an output; a bad property
-- and a constraint keep their own.
pub record HasNames (wide : List Item) (layout : Layout) (narrow : List Item) : Type 0 where
  pub leaves : AllByRecursion (LeafIsNamed layout narrow) wide
  pub outputs : flat_map (shown_names (piece_widths layout narrow)) (of_kind is_output wide) ≡ names_of is_output narrow
  pub bads : names_of is_bad wide ≡ names_of is_bad narrow
  pub constraints : names_of is_constraint wide ≡ names_of is_constraint narrow
