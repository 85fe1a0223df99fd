use Rattle.lrat.specs.HintedProofs.{faulty}
use Rattle.lrat.proofs.StepReaderLemmas.{faulty_refused}
use Rattle.lrat.proofs.step_reader.StepReader.refuse_word.Goals as goal

pub returns-clause-stands : goal.returns-clause-stands
returns-clause-stands c f marks s = c.refuse.ensures.takes f marks (faulty c.args.why) (faulty_refused c.args.self.now.variables c.args.self.now.begun c.args.why) s
