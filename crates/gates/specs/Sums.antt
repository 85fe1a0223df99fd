-- Sums of words in gates: what a column of an adder gives, and what an adder does.
use Rattle.std.specs.Prelude.{◌≡◌, ℕ, ◌+◌, ◌-◌, ◌*◌, ◌/◌, ◌%◌, ◌^◌, List, length, All}
use Rattle.base.specs.Word.{bit_number}
use Rattle.base.specs.Literal.{Valuation, literal_value}
use Rattle.aiger.specs.Net.{Net, IsDefined, Satisfies}
use Rattle.gates.specs.Made.{Grows, word_value}

-- the number of a literal in a valuation: 1 where it is true, else 0
abbrev pub literal_number : Valuation → ℕ → ℕ
literal_number v l = bit_number (literal_value v l)

-- two literals that read as a total from 0 to 3, the first its low bit and the second its high bit, made with at most so many gates more
pub record MakesColumn (old new : Net) (most : ℕ) (total : Valuation → ℕ) (sum carry : ℕ) : Type 0 where
  pub grows : Grows old new most
  pub sum_defined : IsDefined new sum
  pub carry_defined : IsDefined new carry
  pub means : (v : Valuation) → Satisfies new v → literal_number v sum + 2 * literal_number v carry ≡ total v

-- the sum of two words of n bits and of a carry, made with at most so many gates more; in a valuation that satisfies the gates
-- the sum's bits and the carry out of the highest bit behind them read as the whole sum, and the carry into the highest bit is that of the words without their highest bits
pub record MakesSum (old new : Net) (most : ℕ) (a b : List ℕ) (carry : ℕ) (sum : List ℕ) (into_top out : ℕ) : Type 0 where
  pub grows : Grows old new most
  pub wide : length sum ≡ length a
  pub sum_defined : All (IsDefined new) sum
  pub top_defined : IsDefined new into_top
  pub out_defined : IsDefined new out
  pub whole : (v : Valuation) → Satisfies new v → word_value v sum + 2 ^ length a * literal_number v out ≡ word_value v a + word_value v b + literal_number v carry
  pub top : (v : Valuation) → Satisfies new v
      → literal_number v into_top ≡ (word_value v a % 2 ^ (length a - 1) + word_value v b % 2 ^ (length a - 1) + literal_number v carry) / 2 ^ (length a - 1)
