use Rattle.std.proofs.Common.{[], ◌∷◌, ◌==◌, arith, refl}
use Rattle.std.proofs.lemmas.List.Elements.{All-from_recursion}
use Rattle.aiger.specs.Net.{IsDefined}
use Rattle.gates.specs.Worked.{no_gate}
use Rattle.gates.proofs.GrowthLemmas.{MakesWord-not}
use Rattle.gates.proofs.laws.worked_nets.Goals as goal

pub returns-clause-is_no_and : goal.returns-clause-is_no_and
returns-clause-is_no_and c = λ m. absurd (cc (m.means (λ k. k == 1) (refl, tt)))

pub returns-clause-is_not : goal.returns-clause-is_not
returns-clause-is_not c = MakesWord-not no_gate (2 ∷ 4 ∷ []) (3 ∷ 5 ∷ []) (All-from_recursion (IsDefined no_gate) (2 ∷ 4 ∷ []) (omega arith, (omega arith, tt))) refl

pub returns-clause-is_no_literal : goal.returns-clause-is_no_literal
returns-clause-is_no_literal c = λ m. absurd (cc (m.means (λ k. k == 1) tt))
