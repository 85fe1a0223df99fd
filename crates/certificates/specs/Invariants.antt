-- Sets of states by cubes, and when they are an invariant of a circuit. A cube is a list of literals over latches, which are its variables: 2v says that
-- latch v, counted from 1, is 1, and 2v + 1 that it is 0. The states in which all of them are true are in it. An invariant says that no state in one of its
-- cubes is reached.
use Rattle.std.specs.Prelude.{◌≡◌, ℕ, ◌-◌, ◌/◌, ◌%◌, Bool, true, false, not, ◌==◌, List, All, slice_index_or, if◌then◌else◌}
use Rattle.std.specs.List.{list_all, list_any}
use Rattle.base.specs.Literal.{Valuation, literal_value}
use Rattle.aiger.specs.Circuit.{Circuit}
use Rattle.aiger.specs.Trace.{IsCircuitFrame, next_latch_bits}
use Rattle.drup.specs.Formula.{IsLiteral}

-- how many latches are spoken of, and the cubes
pub record Invariant : Type 0 where
  pub latches : ℕ
  pub cubes : List (List ℕ)

-- each cube speaks of these latches alone
abbrev pub AreOver : ℕ → List (List ℕ) → Type 0
AreOver latches cubes = All (All (IsLiteral latches)) cubes

-- whether a literal over latches is true in a state; a latch that is not there is 0
abbrev pub state_bit : List Bool → ℕ → Bool
state_bit state l = if l % 2 == 0 then slice_index_or state (l / 2 - 1) false else not (slice_index_or state (l / 2 - 1) false)

-- whether a state is in a cube
abbrev pub is_in_cube : List Bool → List ℕ → Bool
is_in_cube state cube = list_all (state_bit state) cube

-- whether a state is in no cube
abbrev pub is_outside : List Bool → List (List ℕ) → Bool
is_outside state cubes = list_all (λ cube. not (is_in_cube state cube)) cubes

-- whether a cube asks that some latch be 1, so that the state in which all are 0 is not in it
abbrev pub asks_one : List ℕ → Bool
asks_one cube = list_any (λ l. l % 2 == 0) cube

-- the literal of the first bad property; where there is none, it is false
abbrev pub bad_literal : Circuit → ℕ
bad_literal d = slice_index_or d.bads 0 0

-- in a frame from a state in no cube the bad property does not rise, and the next state is in no cube
pub record KeepsCubes (d : Circuit) (cubes : List (List ℕ)) (v : Valuation) : Type 0 where
  pub safe : literal_value v (bad_literal d) ≡ false
  pub outside : is_outside (next_latch_bits d v) cubes ≡ true

-- cubes that no step enters from outside, and outside of which the bad property does not rise
abbrev pub IsInductive : Circuit → List (List ℕ) → Type 0
IsInductive d cubes = (state input : List Bool) (v : Valuation) → IsCircuitFrame d state input v → is_outside state cubes ≡ true → KeepsCubes d cubes v
