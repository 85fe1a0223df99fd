use Rattle.std.proofs.Common.{ap, ◌∙◌}
use Rattle.lrat.specs.HintedProofs.{Begun, taken}
use Rattle.lrat.specs.Words.{token_said, signed}
use Rattle.lrat.proofs.StepReaderLemmas.{literals_there, signed_taken}
use Rattle.lrat.proofs.step_reader.StepReader.take_among_literals.Goals as goal

pub returns-clause-stands : goal.returns-clause-stands
returns-clause-stands c f marks s =
    let there = literals_there c.args.self.now.begun c.requires.begun in
    c.take_variable.ensures.takes there.0 there.1.0 there.1.1 f marks (token_said (signed c.args.negative c.args.number))
    (ap (λ (b : Begun). taken c.args.self.now.variables b (token_said (signed c.args.negative c.args.number))) there.1.1 ∙ signed_taken c.args.self.now.variables there.0 there.1.0 c.args.negative c.args.number) s
