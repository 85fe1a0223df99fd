-- What a node of a wide list gives in its frames, also once more lines stand behind it.
use Rattle.std.specs.Prelude.{◌≡◌, ℕ, List, ◌++◌, map, Some, unwrap_or}
use Rattle.std.specs.List.{AllZip}
use Rattle.btor2.specs.declared.item.Item.{Item}
use Rattle.btor2.specs.declared.item.Body.{Body}
use Rattle.btor2.specs.Items.{node_width, operands}
use Rattle.btor2.specs.Trace.{Frame, bits_of}
use Rattle.wide.specs.WideModels.{greatest_width, IsWideModel}
use Rattle.full.specs.Lines.{Operand, FullLine, width_of}
use Rattle.full.specs.Runs.{word_by, at_place}
use Rattle.full.specs.WrittenOut.{Places, InFrames, HasWord}

-- something holds of each frame, from words that fit, of each wide list that begins with some items
abbrev pub InAllFrames : List Item → (Frame → Type 0) → Type 0
InAllFrames items Of = (more : List Item) → IsWideModel greatest_width (items ++ more) → InFrames (items ++ more) Of

-- A node of a list has so many bits, and in each such frame its word is a value of the frame.
pub record GivesWord (items : List Item) (bits : ℕ) (value : Frame → ℕ) (w : ℕ) : Type 0 where
  pub width : node_width items w ≡ Some bits
  pub word : InAllFrames items (λ g. g w ≡ value g)

-- the word that a form gives a node of so many bits in a frame, by the widths that a list gives its operands
abbrev pub form_word : List Item → ℕ → Frame → Body → ℕ
form_word items bits g b = unwrap_or (word_by bits (at_place (map (bits_of items) (operands b))) (at_place (map g (operands b))) b) 0

-- operands give values, of so many bits each
abbrev pub OperandsGive : List Item → List ℕ → List (ℕ × (Frame → ℕ)) → Type 0
OperandsGive items ids values = AllZip (λ a v. GivesWord items v.0 v.1 a) ids values

-- nodes of a list have the words and the widths of a line's operands
abbrev pub HaveTheirWords : List FullLine → Places → List Item → List Operand → List ℕ → Type 0
HaveTheirWords full p wide os ids = AllZip (λ (o : Operand) a. HasWord full p wide o a × (node_width wide a ≡ Some (width_of full o.id))) os ids
