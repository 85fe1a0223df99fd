-- Words between the parts of what evaluates many gates at once.
use Rattle.std.specs.Prelude.{◌≡◌, ℕ, ◌+◌, ◌<◌, ◌≤◌, false, List, length, slice_index_or}
use Rattle.base.specs.Literal.{variable, valuation_of, IsAnd}

-- gates of these operands, so many, and bytes with room for their bits from a first variable on: each gate's operands are below it, and the bit of 0 is 0
pub record AreGatesOver (left right : ℕ → ℕ) (count first : ℕ) (bits : List ℕ) : Type 0 where
  pub above : 0 < first
  pub inside : first + count ≤ length bits
  pub lefts : (k : ℕ) → k < count → variable (left k) < first + k
  pub rights : (k : ℕ) → k < count → variable (right k) < first + k
  pub constant : valuation_of bits 0 ≡ false

-- so many gates have the bits that their operands give
abbrev pub AreAnds : (ℕ → ℕ) → (ℕ → ℕ) → ℕ → ℕ → List ℕ → Type 0
AreAnds left right first count bits = (j : ℕ) → j < count → IsAnd (valuation_of bits) (first + j) (left j) (right j)

-- behind those that have theirs, so many more were given their bits, and nothing before the first gate changed
pub record ArePut (left right : ℕ → ℕ) (first done more : ℕ) (old new : List ℕ) : Type 0 where
  pub values : AreAnds left right first done old → AreAnds left right first (done + more) new
  pub others : (p : ℕ) → p < first → slice_index_or new p 0 ≡ slice_index_or old p 0
  pub as_many : length new ≡ length old
