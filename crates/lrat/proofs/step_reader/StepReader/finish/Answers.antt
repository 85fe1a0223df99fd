use Rattle.std.proofs.Common.{sym, ◌∙◌}
use Rattle.lrat.specs.HintedProofs.{between, reading_from}
use Rattle.lrat.proofs.StepReaderLemmas.{read_as}
use Rattle.lrat.proofs.step_reader.StepReader.finish.Goals as goal

pub returns : goal.returns
returns c f marks reading s same =
    c.judgement.ensures f reading
    (read_as f c.close.new.self reading (reading_from c.args.self.variables c.args.last between marks) (λ ok. same (sym c.close.ensures.failed ∙ ok)) (c.close.ensures.read f marks s))
