use Rattle.std.proofs.Common.{true, arith}
use Rattle.gates.proofs.laws.worked_divisions.Goals as goal

pub returns-clause-row_that_takes_nothing : goal.returns-clause-row_that_takes_nothing
returns-clause-row_that_takes_nothing c = λ m. absurd (cc (m.goes (λ k. true) tt))

pub returns-clause-row_not_reduced : goal.returns-clause-row_not_reduced
returns-clause-row_not_reduced c = λ m. absurd (cc (m.left (λ k. true) tt))

pub returns-clause-no_quotient_by_zero : goal.returns-clause-no_quotient_by_zero
returns-clause-no_quotient_by_zero c = λ m. absurd (cc (m.quotient_means (λ k. true) tt))

pub returns-clause-no_remainder_by_zero : goal.returns-clause-no_remainder_by_zero
returns-clause-no_remainder_by_zero c = λ m. absurd (cc (m.remainder_means (λ k. true) tt))

pub returns-clause-remainder_too_wide : goal.returns-clause-remainder_too_wide
returns-clause-remainder_too_wide c = λ m. let wide = m.remainder_wide in absurd (omega arith)
