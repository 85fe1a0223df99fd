use Rattle.std.proofs.Common.{ap}
use Rattle.lrat.specs.HintedProofs.{Begun, number, taken}
use Rattle.lrat.proofs.StepReaderLemmas.{hints_there}
use Rattle.lrat.proofs.step_reader.StepReader.take_among_hints.Goals as goal

pub returns-clause-stands : goal.returns-clause-stands
returns-clause-stands c f marks s =
    let there = hints_there c.args.self.now.begun c.requires.begun in
    c.take_hint_id.ensures.takes there.0 there.1.0 there.1.1.0 there.1.1.1 f marks (number c.args.number) (ap (λ (b : Begun). taken c.args.self.now.variables b (number c.args.number)) there.1.1.1) s
