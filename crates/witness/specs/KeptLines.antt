-- What is kept of a line of a witness over a model that has not ended.
use Rattle.std.specs.Prelude.{◌≡◌, ℕ, ◌<◌, ◌≤◌, ◌^◌, List, take, length, slice_index}
use Rattle.witness.specs.Texts.{Shape}

-- its bytes, or the first 342 of them
abbrev pub kept : List ℕ → List ℕ
kept line = take 342 line

-- two lines are the same as far as they are kept
abbrev pub AreAlike : List ℕ → List ℕ → Type 0
AreAlike line other = kept line ≡ kept other

-- of nodes of these widths an index has at most 20 digits, and a value at most 64
pub record AreNarrow (list : List ℕ) : Type 0 where
  pub few : length list < 2 ^ 64
  pub widths : (i : ℕ) → i < length list → slice_index list i ≤ 64

pub record IsNarrowShape (shape : Shape) : Type 0 where
  pub states : AreNarrow shape.states
  pub inputs : AreNarrow shape.inputs
