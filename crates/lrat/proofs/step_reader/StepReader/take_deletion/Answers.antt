use Rattle.std.proofs.Common.{ap, sym}
use Rattle.drup.specs.Hints.{deletion}
use Rattle.drup.specs.declared.why.Why.TheVariants as why
use Rattle.lrat.specs.declared.token.Token.{Token}
use Rattle.lrat.specs.HintedProofs.{between, deletions, goes_on, gives, refuses, id_numbered, by_id, deletion_taken}
use Rattle.lrat.specs.Words.{token_said}
use Rattle.lrat.proofs.StepReaderLemmas.{takes_as}
use Rattle.lrat.proofs.step_reader.StepReader.take_deletion.Goals as goal

pub returns-in-Ends-clause-takes : goal.returns-in-Ends-clause-takes
returns-in-Ends-clause-takes c = takes_as c.args.self.now c.stand_between.new.self c.args.line (goes_on between) (deletion_taken (token_said c.args.token)) (ap (λ (t : Token). deletion_taken (token_said t)) (sym c.in-Ends.is)) (c.stand_between.ensures.takes c.args.line)

pub returns-in-Deletes-clause-takes : goal.returns-in-Deletes-clause-takes
returns-in-Deletes-clause-takes c = takes_as c.args.self.now c.refuse.new.self c.args.line (refuses why.BadWord) (deletion_taken (token_said c.args.token)) (ap (λ (t : Token). deletion_taken (token_said t)) (sym c.in-Deletes.is)) c.refuse.ensures.takes

pub returns-in-Adds-clause-takes : goal.returns-in-Adds-clause-takes
returns-in-Adds-clause-takes c = takes_as c.args.self.now c.refuse-in-Adds.new.self c.args.line (refuses why.BadWord) (deletion_taken (token_said c.args.token)) (ap (λ (t : Token). deletion_taken (token_said t)) (sym c.in-Adds.is)) c.refuse-in-Adds.ensures.takes

pub returns-in-Removes-clause-takes : goal.returns-in-Removes-clause-takes
returns-in-Removes-clause-takes c = takes_as c.args.self.now c.refuse-in-Removes.new.self c.args.line (refuses why.BadWord) (deletion_taken (token_said c.args.token)) (ap (λ (t : Token). deletion_taken (token_said t)) (sym c.in-Removes.is)) c.refuse-in-Removes.ensures.takes

pub returns-in-Number-clause-takes : goal.returns-in-Number-clause-takes
returns-in-Number-clause-takes c = takes_as c.args.self.now c.take_deleted.new.self c.args.line (by_id (λ id. gives (deletion id) deletions) (id_numbered c.in-Number.number)) (deletion_taken (token_said c.args.token)) (ap (λ (t : Token). deletion_taken (token_said t)) (sym c.in-Number.is)) c.take_deleted.ensures.takes

pub returns-in-Negative-clause-takes : goal.returns-in-Negative-clause-takes
returns-in-Negative-clause-takes c = takes_as c.args.self.now c.refuse-in-Negative.new.self c.args.line (refuses why.BadWord) (deletion_taken (token_said c.args.token)) (ap (λ (t : Token). deletion_taken (token_said t)) (sym c.in-Negative.is)) c.refuse-in-Negative.ensures.takes

pub returns-in-Faulty-clause-takes : goal.returns-in-Faulty-clause-takes
returns-in-Faulty-clause-takes c = takes_as c.args.self.now c.refuse-in-Faulty.new.self c.args.line (refuses c.in-Faulty.why) (deletion_taken (token_said c.args.token)) (ap (λ (t : Token). deletion_taken (token_said t)) (sym c.in-Faulty.is)) c.refuse-in-Faulty.ensures.takes
