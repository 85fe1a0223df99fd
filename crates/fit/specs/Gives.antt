-- What pieces give in the frames of a model, also once more lines stand behind them.
use Rattle.std.specs.Prelude.{◌≡◌, ℕ, true, List, ◌++◌, is_some}
use Rattle.std.specs.List.{AllByRecursion}
use Rattle.btor2.specs.declared.item.Item.{Item}
use Rattle.btor2.specs.Items.{node_width}
use Rattle.btor2.specs.Trace.{Frame, bits_of, IsFrame, IsInput, IsState}
use Rattle.wide.specs.WideModels.{greatest_width, IsWideModel}
use Rattle.fit.specs.Fitting.{pieces_word, pieces_width}

-- something holds of each frame, from words that fit, of each model that begins with some items
abbrev pub InFrames : List Item → (Frame → Type 0) → Type 0
InFrames items Says =
    (more : List Item) (state input g : Frame) → IsWideModel greatest_width (items ++ more) → IsState (items ++ more) state → IsInput (items ++ more) input → IsFrame (items ++ more) state input g → Says g

-- Nodes of a list have so many bits together, and in each such frame they make the word that is a value of the frame, as pieces, the lowest first.
pub record Gives (items : List Item) (bits : ℕ) (value : Frame → ℕ) (pieces : List ℕ) : Type 0 where
  pub nodes : AllByRecursion (λ p. is_some (node_width items p) ≡ true) pieces
  pub width : pieces_width (bits_of items) pieces ≡ bits
  pub word : InFrames items (λ g. pieces_word (bits_of items) g pieces ≡ value g)
