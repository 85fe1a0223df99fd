use Rattle.std.proofs.Common.{true}
use Rattle.gates.proofs.laws.worked_sums.Goals as goal

pub returns-clause-no_column : goal.returns-clause-no_column
returns-clause-no_column c = λ m. absurd (cc (m.means (λ k. true) tt))

pub returns-clause-carry_lost : goal.returns-clause-carry_lost
returns-clause-carry_lost c = λ m. absurd (cc (m.whole (λ k. true) tt))

pub returns-clause-no_carry_into : goal.returns-clause-no_carry_into
returns-clause-no_carry_into c = λ m. absurd (cc (m.top (λ k. true) tt))

pub returns-clause-is_no_literal : goal.returns-clause-is_no_literal
returns-clause-is_no_literal c = λ m. absurd (cc (m.means (λ k. true) tt))
