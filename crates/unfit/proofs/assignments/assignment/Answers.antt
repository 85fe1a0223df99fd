use Rattle.std.proofs.Common.{ap, Option, ℕ, unwrap_or, ◌∙◌}
use Rattle.unfit.proofs.LineLemmas.{parsed}
use Rattle.unfit.proofs.assignments.assignment.Goals as goal

pub returns : goal.returns
returns c widths a narrow is spelled =
    parsed widths a c.args.line.now c.at_space.result.0.now c.at_space.result.1.now c.at_space-2.result.0.now c.at_space-2.result.1.now c.unwrap_or.result c.word_of_digits.result narrow is spelled c.at_space.ensures c.at_space-2.ensures
    (c.unwrap_or.ensures ∙ ap (λ (o : Option ℕ). unwrap_or o 0) c.decimal.ensures) c.word_of_digits.ensures
