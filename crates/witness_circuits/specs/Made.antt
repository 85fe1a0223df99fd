-- What the maker of a test gives: literals that stand for two frames of the circuit and two of the witness circuit beside them, and one that says that a condition fails.
use Rattle.std.specs.Prelude.{◌≡◌, ℕ, suc, ◌+◌, ◌*◌, ◌<◌, Bool, true, ◌&&◌, ◌||◌, not, List, [], ◌∷◌, ◌++◌, length, map, All, slice_get, slice_index, unwrap_or, Option, None, Some}
use Rattle.aiger.specs.declared.circuit.Latch.{Latch}
use Rattle.aiger.specs.declared.circuit.Reset.{Reset}
use Rattle.aiger.specs.declared.circuit.Reset.TheVariants.{Zero, One, Free}
use Rattle.base.specs.Literal.{Valuation, variable, literal_value}
use Rattle.aiger.specs.Net.{Net, variables, IsDefined, Satisfies, net_input_bits, latch_bits}
use Rattle.aiger.specs.Circuit.{Circuit, net}
use Rattle.aiger.specs.Trace.{IsCircuitFrame, next_latch_bits}
use Rattle.gates.specs.Made.{Grows}
use Rattle.gates.specs.Reads.{read, literal_in}
use Rattle.witness_circuits.specs.Mapping.{Mapping}
use Rattle.witness_circuits.specs.Certificate.{constraints_hold, bad_rises}
use Rattle.witness_circuits.specs.Guards.{beside}
use Rattle.witness_circuits.specs.Tests.{claim_holds, test_cost}

-- what something of the witness circuit stands for is defined in the circuit
abbrev pub IsSharedIn : Net → Option ℕ → Type 0
IsSharedIn n None = Unit {0}
IsSharedIn n (Some l) = IsDefined n l

-- what something of the witness circuit stands for is of a variable below a number
abbrev pub IsSharedBelow : ℕ → Option ℕ → Type 0
IsSharedBelow n None = Unit {0}
IsSharedBelow n (Some l) = variable l < n

-- whether a bit agrees with a reset
abbrev pub agrees : Reset → Bool → Bool
agrees Zero b = not b
agrees One b = b
agrees Free b = true

-- whether the bits of latches that stand for nothing agree with their resets; those behind the list of what they stand for do so
abbrev pub own_initial : List (Option ℕ) → List Latch → List Bool → Bool
own_initial [] [] bs = true
own_initial [] (l ∷ ls) [] = true
own_initial [] (l ∷ ls) (b ∷ bs) = agrees l.reset b && own_initial [] ls bs
own_initial (m ∷ ms) [] bs = true
own_initial (m ∷ ms) (l ∷ ls) [] = true
own_initial (None ∷ ms) (l ∷ ls) (b ∷ bs) = agrees l.reset b && own_initial ms ls bs
own_initial (Some n ∷ ms) (l ∷ ls) (b ∷ bs) = own_initial ms ls bs

-- the reset of a latch that stands for nothing, and none of one that stands for something
abbrev pub reset_where : Option ℕ → Reset → Reset
reset_where None reset = reset
reset_where (Some l) reset = Free

-- the same of the latch at a position
abbrev pub own_reset : List (Option ℕ) → ℕ → Reset → Reset
own_reset ms j reset = reset_where (unwrap_or (slice_get ms j) None) reset

-- both circuits begin
abbrev pub both_begin : Circuit → Circuit → Mapping → Valuation → Valuation → Bool
both_begin c w m v x = own_initial [] c.latches (latch_bits (net c) v) && own_initial m.latches w.latches (latch_bits (net w) x)

-- one of the three conditions fails where the constraints hold: what is claimed does not begin to hold, does not go on to, or does not exclude the bad property
abbrev pub fails_by : (met begin holds next_met next_holds bad : Bool) → Bool
fails_by met begin holds next_met next_holds bad = met && ((begin && not holds) || ((holds && (next_met && not next_holds)) || (holds && bad)))

-- the gates at most that say so
abbrev pub condition_cost : Circuit → Circuit → ℕ
condition_cost c w = 2 * (length c.constraints + length w.constraints) + length c.latches + length w.latches + 9

-- the same of four valuations
abbrev pub condition_fails : Circuit → ℕ → Circuit → Mapping → Valuation → Valuation → Valuation → Valuation → Bool
condition_fails c k w m v n x y = fails_by (constraints_hold c v) (both_begin c w m v x) (claim_holds w x) (constraints_hold c n) (claim_holds w y) (bad_rises c k v)

-- what a test's inputs have, of bits or of literals: those of the inputs, the latches and the next inputs of the circuit, then of the witness circuit the own ones of inputs, latches and next inputs
pub record TestParts (A : Type 0) : Type 0 where
  pub inputs : List A
  pub latches : List A
  pub next_inputs : List A
  pub own_inputs : List A
  pub own_latches : List A
  pub next_own : List A

abbrev pub all_parts : {A : Type 0} → TestParts A → List A
all_parts g = g.inputs ++ (g.latches ++ (g.next_inputs ++ (g.own_inputs ++ (g.own_latches ++ g.next_own))))

-- as many as there are
pub record AreAsMany {A : Type 0} (c w : Circuit) (g : TestParts A) : Type 0 where
  pub inputs : length g.inputs ≡ c.inputs
  pub latches : length g.latches ≡ length c.latches
  pub next_inputs : length g.next_inputs ≡ c.inputs
  pub own_inputs : length g.own_inputs ≡ w.inputs
  pub own_latches : length g.own_latches ≡ length w.latches
  pub next_own : length g.next_own ≡ w.inputs

-- four valuations are frames of the circuits from these bits
pub record AreFourFrames (c w : Circuit) (m : Mapping) (g : TestParts Bool) (v n x y : Valuation) : Type 0 where
  pub now : IsCircuitFrame c g.latches g.inputs v
  pub next : IsCircuitFrame c (next_latch_bits c v) g.next_inputs n
  pub beside_now : IsCircuitFrame w (beside v m.latches g.own_latches) (beside v m.inputs g.own_inputs) x
  pub beside_next : IsCircuitFrame w (beside n m.latches (next_latch_bits w x)) (beside n m.inputs g.next_own) y

-- ---- literals

-- what literals are in a valuation
abbrev pub values : Valuation → List ℕ → List Bool
values z ls = map (literal_value z) ls

abbrev pub part_values : Valuation → TestParts ℕ → TestParts Bool
part_values z p =
    record {
      inputs = values z p.inputs;
      latches = values z p.latches;
      next_inputs = values z p.next_inputs;
      own_inputs = values z p.own_inputs;
      own_latches = values z p.own_latches;
      next_own = values z p.next_own;
    }

-- the same of gates over literals that stand for the parts
pub record IsMadeFrom (c : Circuit) (k : ℕ) (w : Circuit) (m : Mapping) (p : TestParts ℕ) (old n : Net) (l : ℕ) : Type 0 where
  pub now : Valuation → Valuation
  pub next : Valuation → Valuation
  pub beside_now : Valuation → Valuation
  pub beside_next : Valuation → Valuation
  pub grows : Grows old n (test_cost c w)
  pub defined : IsDefined n l
  pub frames : (z : Valuation) → Satisfies n z → AreFourFrames c w m (part_values z p) (now z) (next z) (beside_now z) (beside_next z)
  pub rises : (z : Valuation) → Satisfies n z → literal_value z l ≡ condition_fails c k w m (now z) (next z) (beside_now z) (beside_next z)

-- the literal of an input or latch of the witness circuit: of the literal that it stands for, or its own
abbrev pub beside_literal : List ℕ → Option ℕ → ℕ → ℕ
beside_literal table None own = own
beside_literal table (Some l) own = literal_in table l

abbrev pub beside_literals : List ℕ → List (Option ℕ) → List ℕ → List ℕ
beside_literals table [] os = []
beside_literals table (m ∷ ms) [] = []
beside_literals table (m ∷ ms) (o ∷ os) = beside_literal table m o ∷ beside_literals table ms os

-- literals that stand for false and all variables of a circuit
pub record StandFor (c : Circuit) (n : Net) (table : List ℕ) : Type 0 where
  pub zero_is : slice_index table 0 ≡ 0
  pub many : length table ≡ suc (variables (net c))
  pub defined : All (IsDefined n) table

-- the literals that latches take
abbrev pub next_literals : List ℕ → List Latch → List ℕ
next_literals table latches = map (λ (latch : Latch). literal_in table latch.next) latches

-- a copy of a circuit, from literals of its inputs and latches
pub record IsCopied (c : Circuit) (inputs latches : List ℕ) (old new : Net) (table : List ℕ) : Type 0 where
  pub grows : Grows old new (length c.gates)
  pub stand : StandFor c new table
  pub frame : (z : Valuation) → Satisfies new z → IsCircuitFrame c (values z latches) (values z inputs) (read table z)

-- a frame of a circuit and one of the witness circuit beside it, from literals of inputs and latches
pub record AreBeside (c w : Circuit) (m : Mapping) (inputs latches own_inputs own_latches : List ℕ) (old new : Net) (table own : List ℕ) : Type 0 where
  pub grows : Grows old new (length c.gates + length w.gates)
  pub stand : StandFor c new table
  pub own_stand : StandFor w new own
  pub frame : (z : Valuation) → Satisfies new z → IsCircuitFrame c (values z latches) (values z inputs) (read table z)
  pub own_frame : (z : Valuation) → Satisfies new z
      → IsCircuitFrame w (beside (read table z) m.latches (values z own_latches)) (beside (read table z) m.inputs (values z own_inputs)) (read own z)
