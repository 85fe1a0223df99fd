use Rattle.std.proofs.Common.{ap, sym, ◌∙◌}
use Rattle.drup.specs.declared.why.Why.TheVariants as why
use Rattle.lrat.specs.HintedProofs.{refuses, by_id, id_numbered}
use Rattle.lrat.proofs.StepReaderLemmas.{takes_as}
use Rattle.lrat.proofs.step_reader.StepReader.take_negative.Goals as goal

pub returns-in-None-clause-takes : goal.returns-in-None-clause-takes
returns-in-None-clause-takes c = takes_as c.args.self.now c.refuse.new.self c.args.line (refuses why.BadWord) (by_id (λ hint. refuses why.RatStep) (id_numbered c.args.number)) (ap (by_id (λ hint. refuses why.RatStep)) (sym c.in-None.is ∙ c.id_of.ensures)) c.refuse.ensures.takes

pub returns-in-Some-clause-takes : goal.returns-in-Some-clause-takes
returns-in-Some-clause-takes c = takes_as c.args.self.now c.refuse-in-Some.new.self c.args.line (refuses why.RatStep) (by_id (λ hint. refuses why.RatStep) (id_numbered c.args.number)) (ap (by_id (λ hint. refuses why.RatStep)) (sym c.in-Some.is ∙ c.id_of.ensures)) c.refuse-in-Some.ensures.takes
