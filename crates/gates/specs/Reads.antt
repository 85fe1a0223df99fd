-- What literals that stand for a circuit's variables say in a valuation of other gates.
use Rattle.std.specs.Prelude.{◌≡◌, ℕ, ◌%◌, ◌==◌, List, ◌++◌, length, All, slice_index, if◌then◌else◌}
use Rattle.aiger.specs.declared.circuit.Gate.{Gate}
use Rattle.base.specs.Literal.{Valuation, variable, negation, literal_value}
use Rattle.aiger.specs.Net.{Net, IsDefined, Satisfies, SatisfiesFrom}
use Rattle.gates.specs.Made.{Grows}

-- the valuation of the circuit that these literals say, one for each variable
abbrev pub read : List ℕ → Valuation → Valuation
read table w k = literal_value w (slice_index table k)

-- the literal that stands for a literal of the circuit
abbrev pub literal_in : List ℕ → ℕ → ℕ
literal_in table l = if l % 2 == 0 then slice_index table (variable l) else negation (slice_index table (variable l))

-- literals that stand for gates, behind those that stand for the variables below them
pub record GatesRead (old new : Net) (first : ℕ) (gates : List Gate) (before more : List ℕ) : Type 0 where
  pub grows : Grows old new (length gates)
  pub defined : All (IsDefined new) more
  pub many : length more ≡ length gates
  pub satisfied : (w : Valuation) → Satisfies new w → SatisfiesFrom first gates (read (before ++ more) w)
