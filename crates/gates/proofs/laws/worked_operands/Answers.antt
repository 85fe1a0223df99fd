use Rattle.std.proofs.Common.{[], ◌∷◌, refl, arith}
use Rattle.std.proofs.lemmas.List.Elements.{All-from_recursion, All-head}
use Rattle.aiger.specs.Net.{IsDefined}
use Rattle.gates.specs.Worked.{no_gate}
use Rattle.gates.proofs.laws.worked_operands.Goals as goal

pub returns-clause-inputs : goal.returns-clause-inputs
returns-clause-inputs c =
    record {
      some = omega arith;
      most = omega arith;
      equal = refl;
      left = All-from_recursion (IsDefined no_gate) (2 ∷ []) (omega arith, tt);
      right = All-from_recursion (IsDefined no_gate) (5 ∷ []) (omega arith, tt);
    }

pub returns-clause-no_literals : goal.returns-clause-no_literals
returns-clause-no_literals c = λ m. absurd (omega (arith, m.some))

pub returns-clause-two_lengths : goal.returns-clause-two_lengths
returns-clause-two_lengths c = λ m. absurd (omega (arith, m.equal))

pub returns-clause-too_long : goal.returns-clause-too_long
returns-clause-too_long c = λ m. absurd (omega (arith, m.most))

pub returns-clause-undefined : goal.returns-clause-undefined
returns-clause-undefined c = λ m. absurd (omega (arith, All-head (IsDefined no_gate) 6 [] m.left))
