use Rattle.std.proofs.Common.{[], false, sym, ◌∙◌}
use Rattle.drup.specs.Proofs.{reading_from}
use Rattle.drup.proofs.StepReaderLemmas.{read_as}
use Rattle.drup.proofs.step_reader.StepReader.finish.Goals as goal

pub returns-clause-judges : goal.returns-clause-judges
returns-clause-judges c f marks reading s same =
    c.judgement.ensures f reading
    (read_as f c.close.new.self reading (reading_from c.args.last false [] marks) (λ ok. same (sym c.close.ensures.failed ∙ ok)) (c.close.ensures.read f marks s))
