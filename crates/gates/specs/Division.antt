-- Division of words in gates: what a row gives, and what all rows do.
use Rattle.std.specs.Prelude.{◌≡◌, ℕ, ◌-◌, nat_le, List, length, All, if◌then◌else◌}
use Rattle.base.specs.Operator.{udiv, urem}
use Rattle.base.specs.Literal.{Valuation, literal_value}
use Rattle.aiger.specs.Net.{Net, IsDefined, Satisfies}
use Rattle.gates.specs.Made.{Grows, word_value}

-- what is left of a where b is taken from it once, if it goes into it
abbrev pub reduced : ℕ → ℕ → ℕ
reduced a b = if nat_le b a then a - b else a

-- a row of a division, made with at most so many gates more: in a valuation that satisfies the gates its bit is 1 where the divisor goes into
-- the row's dividend, and its remainder, as wide as that, reads as what is then left
pub record MakesQuotientRow (old new : Net) (most : ℕ) (dividend b : List ℕ) (bit : ℕ) (remainder : List ℕ) : Type 0 where
  pub grows : Grows old new most
  pub bit_defined : IsDefined new bit
  pub wide : length remainder ≡ length dividend
  pub remainder_defined : All (IsDefined new) remainder
  pub goes : (v : Valuation) → Satisfies new v → literal_value v bit ≡ nat_le (word_value v b) (word_value v dividend)
  pub left : (v : Valuation) → Satisfies new v → word_value v remainder ≡ reduced (word_value v dividend) (word_value v b)

-- the quotient and the remainder of a dividend that is no wider than the divisor, both as wide as it, made with at most so many gates more
pub record MakesDivision (old new : Net) (most : ℕ) (a b quotient remainder : List ℕ) : Type 0 where
  pub grows : Grows old new most
  pub quotient_wide : length quotient ≡ length a
  pub remainder_wide : length remainder ≡ length a
  pub quotient_defined : All (IsDefined new) quotient
  pub remainder_defined : All (IsDefined new) remainder
  pub quotient_means : (v : Valuation) → Satisfies new v → word_value v quotient ≡ udiv (length a) (word_value v a) (word_value v b)
  pub remainder_means : (v : Valuation) → Satisfies new v → word_value v remainder ≡ urem (word_value v a) (word_value v b)
