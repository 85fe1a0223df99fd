use Rattle.std.proofs.Common.{[], ◌∷◌, ◌++◌, ap, sym}
use Rattle.drup.specs.Hints.{addition}
use Rattle.drup.specs.declared.why.Why.TheVariants as why
use Rattle.lrat.specs.declared.token.Token.{Token}
use Rattle.lrat.specs.HintedProofs.{between, hints, goes_on, gives, refuses, id_numbered, by_id, hint_taken}
use Rattle.lrat.specs.Words.{token_said}
use Rattle.lrat.proofs.StepReaderLemmas.{takes_as}
use Rattle.lrat.proofs.step_reader.StepReader.take_hint.Goals as goal

pub returns-in-Ends-clause-takes : goal.returns-in-Ends-clause-takes
returns-in-Ends-clause-takes c id clause before is = takes_as c.args.self.now c.end_addition.new.self c.args.line (gives (addition id clause before) between) (hint_taken id clause before (token_said c.args.token)) (ap (λ (t : Token). hint_taken id clause before (token_said t)) (sym c.in-Ends.is)) (c.end_addition.ensures.takes id clause before is)

pub returns-in-Deletes-clause-takes : goal.returns-in-Deletes-clause-takes
returns-in-Deletes-clause-takes c id clause before is = takes_as c.args.self.now c.refuse.new.self c.args.line (refuses why.BadWord) (hint_taken id clause before (token_said c.args.token)) (ap (λ (t : Token). hint_taken id clause before (token_said t)) (sym c.in-Deletes.is)) c.refuse.ensures.takes

pub returns-in-Adds-clause-takes : goal.returns-in-Adds-clause-takes
returns-in-Adds-clause-takes c id clause before is = takes_as c.args.self.now c.refuse-in-Adds.new.self c.args.line (refuses why.BadWord) (hint_taken id clause before (token_said c.args.token)) (ap (λ (t : Token). hint_taken id clause before (token_said t)) (sym c.in-Adds.is)) c.refuse-in-Adds.ensures.takes

pub returns-in-Removes-clause-takes : goal.returns-in-Removes-clause-takes
returns-in-Removes-clause-takes c id clause before is = takes_as c.args.self.now c.refuse-in-Removes.new.self c.args.line (refuses why.BadWord) (hint_taken id clause before (token_said c.args.token)) (ap (λ (t : Token). hint_taken id clause before (token_said t)) (sym c.in-Removes.is)) c.refuse-in-Removes.ensures.takes

pub returns-in-Number-clause-takes : goal.returns-in-Number-clause-takes
returns-in-Number-clause-takes c id clause before is = takes_as c.args.self.now c.take_hint_id.new.self c.args.line (by_id (λ hint. goes_on (hints id clause (before ++ hint ∷ []))) (id_numbered c.in-Number.number)) (hint_taken id clause before (token_said c.args.token)) (ap (λ (t : Token). hint_taken id clause before (token_said t)) (sym c.in-Number.is)) (c.take_hint_id.ensures.takes id clause before is)

pub returns-in-Negative-clause-takes : goal.returns-in-Negative-clause-takes
returns-in-Negative-clause-takes c id clause before is = takes_as c.args.self.now c.take_negative.new.self c.args.line (by_id (λ hint. refuses why.RatStep) (id_numbered c.in-Negative.number)) (hint_taken id clause before (token_said c.args.token)) (ap (λ (t : Token). hint_taken id clause before (token_said t)) (sym c.in-Negative.is)) c.take_negative.ensures.takes

pub returns-in-Faulty-clause-takes : goal.returns-in-Faulty-clause-takes
returns-in-Faulty-clause-takes c id clause before is = takes_as c.args.self.now c.refuse-in-Faulty.new.self c.args.line (refuses c.in-Faulty.why) (hint_taken id clause before (token_said c.args.token)) (ap (λ (t : Token). hint_taken id clause before (token_said t)) (sym c.in-Faulty.is)) c.refuse-in-Faulty.ensures.takes
