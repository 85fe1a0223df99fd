use Rattle.std.proofs.Common.{[], ap, sym}
use Rattle.drup.specs.declared.why.Why.TheVariants as why
use Rattle.lrat.specs.declared.token.Token.{Token}
use Rattle.lrat.specs.HintedProofs.{between, deletions, goes_on, refuses, literals, id_numbered, by_id, first_taken}
use Rattle.lrat.specs.Words.{token_said}
use Rattle.lrat.proofs.StepReaderLemmas.{takes_as}
use Rattle.lrat.proofs.step_reader.StepReader.take_first.Goals as goal

pub returns-in-Ends-clause-takes : goal.returns-in-Ends-clause-takes
returns-in-Ends-clause-takes c = takes_as c.args.self.now c.refuse.new.self c.args.line (refuses why.BadWord) (first_taken (token_said c.args.token)) (ap (λ (t : Token). first_taken (token_said t)) (sym c.in-Ends.is)) c.refuse.ensures.takes

pub returns-in-Deletes-clause-takes : goal.returns-in-Deletes-clause-takes
returns-in-Deletes-clause-takes c = takes_as c.args.self.now c.refuse-in-Deletes.new.self c.args.line (refuses why.BadWord) (first_taken (token_said c.args.token)) (ap (λ (t : Token). first_taken (token_said t)) (sym c.in-Deletes.is)) c.refuse-in-Deletes.ensures.takes

pub returns-in-Adds-clause-takes : goal.returns-in-Adds-clause-takes
returns-in-Adds-clause-takes c = takes_as c.args.self.now c.stand_between.new.self c.args.line (goes_on between) (first_taken (token_said c.args.token)) (ap (λ (t : Token). first_taken (token_said t)) (sym c.in-Adds.is)) (c.stand_between.ensures.takes c.args.line)

pub returns-in-Removes-clause-takes : goal.returns-in-Removes-clause-takes
returns-in-Removes-clause-takes c = takes_as c.args.self.now c.begin_deletions.new.self c.args.line (goes_on deletions) (first_taken (token_said c.args.token)) (ap (λ (t : Token). first_taken (token_said t)) (sym c.in-Removes.is)) (c.begin_deletions.ensures.takes c.args.line)

pub returns-in-Number-clause-takes : goal.returns-in-Number-clause-takes
returns-in-Number-clause-takes c = takes_as c.args.self.now c.take_id.new.self c.args.line (by_id (λ id. goes_on (literals id [])) (id_numbered c.in-Number.number)) (first_taken (token_said c.args.token)) (ap (λ (t : Token). first_taken (token_said t)) (sym c.in-Number.is)) c.take_id.ensures.takes

pub returns-in-Negative-clause-takes : goal.returns-in-Negative-clause-takes
returns-in-Negative-clause-takes c = takes_as c.args.self.now c.refuse-in-Negative.new.self c.args.line (refuses why.BadWord) (first_taken (token_said c.args.token)) (ap (λ (t : Token). first_taken (token_said t)) (sym c.in-Negative.is)) c.refuse-in-Negative.ensures.takes

pub returns-in-Faulty-clause-takes : goal.returns-in-Faulty-clause-takes
returns-in-Faulty-clause-takes c = takes_as c.args.self.now c.refuse-in-Faulty.new.self c.args.line (refuses c.in-Faulty.why) (first_taken (token_said c.args.token)) (ap (λ (t : Token). first_taken (token_said t)) (sym c.in-Faulty.is)) c.refuse-in-Faulty.ensures.takes
