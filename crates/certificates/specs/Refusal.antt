-- When a cube is no cube of an invariant, and when there is no obligation.
use Rattle.std.specs.Prelude.{◌≡◌, ℕ, ◌+◌, true, false, ◌⊎◌, List, length, All, Option, None, Some, Result, Ok, Err, nat_lt, if◌then◌else◌}
use Rattle.aiger.specs.Circuit.{Circuit}
use Rattle.drup.specs.Formula.{IsLiteral}
use Rattle.certificates.specs.declared.why.InvariantWhy.{InvariantWhy}
use Rattle.certificates.specs.declared.why.InvariantWhy.TheVariants as why
use Rattle.certificates.specs.declared.fault.ObligationFault.{ObligationFault}
use Rattle.certificates.specs.declared.fault.ObligationFault.TheVariants as fault
use Rattle.certificates.specs.Invariants.{Invariant, asks_one}
use Rattle.certificates.specs.Obligation.{rise_variable}

-- a cube is taken only where it asks for a 1 and each literal is of a latch that is there; it is refused exactly where it does not ask, then where one is not, and else for want of memory
abbrev pub RefusesCube : {T : Type 0} → Result T InvariantWhy → Invariant → List ℕ → Type 0
RefusesCube (Ok x) v cube = (asks_one cube ≡ true) × All (IsLiteral v.latches) cube
RefusesCube (Err e) v cube =
    ((asks_one cube ≡ false) × (e ≡ why.HoldsAtStart))
    ⊎ ((asks_one cube ≡ true) × (((All (IsLiteral v.latches) cube → ⊥) × (e ≡ why.NoSuchLatch)) ⊎ (All (IsLiteral v.latches) cube × (e ≡ why.NoMemory))))

-- the greatest count of variables that a formula may have
abbrev pub most_variables : ℕ
most_variables = 2147483646

-- the fault of an obligation: it has too many variables
abbrev pub obligation_refusal : Circuit → List (List ℕ) → Option ObligationFault
obligation_refusal d cubes = if nat_lt most_variables (rise_variable d + length cubes) then Some fault.TooBig else None

-- made only where there is no fault; an error is the fault, or want of memory where there is none
abbrev pub RefusesObligation : {T : Type 0} → Result T ObligationFault → Option ObligationFault → Type 0
RefusesObligation (Ok x) refusal = refusal ≡ None
RefusesObligation (Err e) refusal = (refusal ≡ Some e) ⊎ ((refusal ≡ None) × (e ≡ fault.NoMemory))
