-- A witness circuit that runs beside a circuit and guards a bad property of it. That is less than the five checks of a certificate ask for: what shared latches begin
-- with and take plays no part, so that a latch which is shared is no more than a shared input; and what the witness circuit says is asked for along runs of the circuit alone.
use Rattle.std.specs.Prelude.{◌≡◌, ℕ, Bool, true, false, List, [], ◌∷◌, Option, None, Some}
use Rattle.base.specs.Literal.{Valuation, literal_value}
use Rattle.aiger.specs.Circuit.{Circuit, IsCircuit}
use Rattle.aiger.specs.Trace.{IsCircuitFrame, next_latch_bits, AreInitial}
use Rattle.witness_circuits.specs.Mapping.{Mapping, IsMappingOf}
use Rattle.witness_circuits.specs.Certificate.{constraints_hold, bad_rises, property_fails, MeetsConstraints, BeginsAtResets, IsNext}

-- bits of a witness circuit in which those that stand for something are what they stand for
abbrev pub beside : Valuation → List (Option ℕ) → List Bool → List Bool
beside v [] bs = []
beside v (m ∷ ms) [] = []
beside v (None ∷ ms) (b ∷ bs) = b ∷ beside v ms bs
beside v (Some l ∷ ms) (b ∷ bs) = literal_value v l ∷ beside v ms bs

-- a valuation of the witness circuit beside one of the circuit: what is shared is read there, its own latches have these bits, and its own inputs some
pub record IsBeside (w : Circuit) (m : Mapping) (v : Valuation) (own : List Bool) (x : Valuation) : Type 0 where
  pub given : List Bool
  pub frame : IsCircuitFrame w (beside v m.latches own) (beside v m.inputs given) x

-- what a witness circuit claims holds: its constraints, and its property
pub record ClaimHolds (w : Circuit) (x : Valuation) : Type 0 where
  pub constraints : constraints_hold w x ≡ true
  pub safe : property_fails w x ≡ false

-- beside each run of the circuit up to which its constraints hold, what the witness circuit claims begins to hold, goes on to, and excludes the bad property
pub record Guards (c : Circuit) (k : ℕ) (w : Circuit) (m : Mapping) : Type 0 where
  pub circuit : IsCircuit w
  pub mapping : IsMappingOf w m
  pub begins : (v x : Valuation) (own : List Bool) → MeetsConstraints c v → BeginsAtResets c v → AreInitial w.latches own → IsBeside w m v own x → ClaimHolds w x
  pub goes_on : (v next_v x next_x : Valuation) (own : List Bool) → MeetsConstraints c v → MeetsConstraints c next_v → IsNext c v next_v
      → IsBeside w m v own x → ClaimHolds w x → IsBeside w m next_v (next_latch_bits w x) next_x → ClaimHolds w next_x
  pub excludes : (v x : Valuation) (own : List Bool) → MeetsConstraints c v → IsBeside w m v own x → ClaimHolds w x → bad_rises c k v ≡ false
