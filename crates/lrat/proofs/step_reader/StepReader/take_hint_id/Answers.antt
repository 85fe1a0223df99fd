use Rattle.std.proofs.Common.{[], ◌∷◌, ◌++◌, ap, sym, ◌∙◌}
use Rattle.drup.specs.declared.why.Why.TheVariants as why
use Rattle.lrat.specs.HintedProofs.{goes_on, refuses, hints, by_id, id_numbered}
use Rattle.lrat.proofs.StepReaderLemmas.{takes_as}
use Rattle.lrat.proofs.step_reader.StepReader.take_hint_id.Goals as goal

pub returns-in-None-clause-takes : goal.returns-in-None-clause-takes
returns-in-None-clause-takes c id clause before is =
    takes_as c.args.self.now c.refuse.new.self c.args.line (refuses why.BadWord) (by_id (λ hint. goes_on (hints id clause (before ++ hint ∷ []))) (id_numbered c.args.number))
    (ap (by_id (λ hint. goes_on (hints id clause (before ++ hint ∷ [])))) (sym c.in-None.is ∙ c.id_of.ensures)) c.refuse.ensures.takes

pub returns-in-Some-clause-takes : goal.returns-in-Some-clause-takes
returns-in-Some-clause-takes c id clause before is =
    takes_as c.args.self.now c.push_hint.new.self c.args.line (goes_on (hints id clause (before ++ c.in-Some.hint ∷ []))) (by_id (λ hint. goes_on (hints id clause (before ++ hint ∷ []))) (id_numbered c.args.number))
    (ap (by_id (λ hint. goes_on (hints id clause (before ++ hint ∷ [])))) (sym c.in-Some.is ∙ c.id_of.ensures)) (c.push_hint.ensures.takes c.args.line id clause before is)
