use Rattle.std.proofs.Common.{◌∙◌}
use Rattle.drup.proofs.StepReaderLemmas.{nothing_by_length}
use Rattle.drup.proofs.step_reader.is_nothing.Goals as goal

pub returns : goal.returns
returns c = c.is_empty.ensures ∙ nothing_by_length c.args.clause.now
