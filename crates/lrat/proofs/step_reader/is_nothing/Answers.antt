use Rattle.std.proofs.Common.{◌∙◌}
use Rattle.lrat.proofs.StepReaderLemmas.{nothing_by_length}
use Rattle.lrat.proofs.step_reader.is_nothing.Goals as goal

pub returns : goal.returns
returns c = c.is_empty.ensures ∙ nothing_by_length c.args.clause.now
