use Rattle.std.proofs.Common.{true, false, [], ◌∷◌, refl, sym}
use Rattle.std.proofs.lemmas.Bool.{true≢false}
use Rattle.aiger.specs.Worked.{on, off}
use Rattle.certificates.proofs.laws.worked_invariants.Goals as goal

pub returns-clause-no_cube : goal.returns-clause-no_cube
returns-clause-no_cube c h = true≢false (h (true ∷ []) [] on (record { gates = tt; inputs = refl; latches = refl }) refl).safe

pub returns-clause-enters : goal.returns-clause-enters
returns-clause-enters c h = true≢false (sym (h (false ∷ []) [] off (record { gates = tt; inputs = refl; latches = refl }) refl).outside)
