use Rattle.std.proofs.Common.{[], ap, sym}
use Rattle.std.specs.Prelude.{if◌then◌else◌}
use Rattle.base.specs.Decimals.{is_nothing}
use Rattle.drup.specs.declared.why.Why.TheVariants as why
use Rattle.lrat.specs.declared.token.Token.{Token}
use Rattle.lrat.specs.HintedProofs.{deletions, hints, goes_on, refuses, with_literal, literal_taken}
use Rattle.lrat.specs.Words.{token_said}
use Rattle.lrat.proofs.StepReaderLemmas.{takes_as}
use Rattle.lrat.proofs.step_reader.StepReader.take_literal.Goals as goal

pub returns-in-Ends-clause-takes : goal.returns-in-Ends-clause-takes
returns-in-Ends-clause-takes c id clause is = takes_as c.args.self.now c.begin_hints.new.self c.args.line (goes_on (hints id clause [])) (literal_taken c.args.self.now.variables id clause (token_said c.args.token)) (ap (λ (t : Token). literal_taken c.args.self.now.variables id clause (token_said t)) (sym c.in-Ends.is)) (c.begin_hints.ensures.takes c.args.line id clause is)

pub returns-in-Deletes-clause-takes : goal.returns-in-Deletes-clause-takes
returns-in-Deletes-clause-takes c id clause is = takes_as c.args.self.now c.take_letter.new.self c.args.line (if is_nothing clause then goes_on deletions else refuses why.BadWord) (literal_taken c.args.self.now.variables id clause (token_said c.args.token)) (ap (λ (t : Token). literal_taken c.args.self.now.variables id clause (token_said t)) (sym c.in-Deletes.is)) (c.take_letter.ensures.takes id clause is)

pub returns-in-Adds-clause-takes : goal.returns-in-Adds-clause-takes
returns-in-Adds-clause-takes c id clause is = takes_as c.args.self.now c.refuse.new.self c.args.line (refuses why.BadWord) (literal_taken c.args.self.now.variables id clause (token_said c.args.token)) (ap (λ (t : Token). literal_taken c.args.self.now.variables id clause (token_said t)) (sym c.in-Adds.is)) c.refuse.ensures.takes

pub returns-in-Removes-clause-takes : goal.returns-in-Removes-clause-takes
returns-in-Removes-clause-takes c id clause is = takes_as c.args.self.now c.refuse-in-Removes.new.self c.args.line (refuses why.BadWord) (literal_taken c.args.self.now.variables id clause (token_said c.args.token)) (ap (λ (t : Token). literal_taken c.args.self.now.variables id clause (token_said t)) (sym c.in-Removes.is)) c.refuse-in-Removes.ensures.takes

pub returns-in-Number-clause-takes : goal.returns-in-Number-clause-takes
returns-in-Number-clause-takes c id clause is = takes_as c.args.self.now c.take_variable.new.self c.args.line (with_literal c.args.self.now.variables id clause 0 c.in-Number.number) (literal_taken c.args.self.now.variables id clause (token_said c.args.token)) (ap (λ (t : Token). literal_taken c.args.self.now.variables id clause (token_said t)) (sym c.in-Number.is)) (c.take_variable.ensures.takes id clause is)

pub returns-in-Negative-clause-takes : goal.returns-in-Negative-clause-takes
returns-in-Negative-clause-takes c id clause is = takes_as c.args.self.now c.take_variable-in-Negative.new.self c.args.line (with_literal c.args.self.now.variables id clause 1 c.in-Negative.number) (literal_taken c.args.self.now.variables id clause (token_said c.args.token)) (ap (λ (t : Token). literal_taken c.args.self.now.variables id clause (token_said t)) (sym c.in-Negative.is)) (c.take_variable-in-Negative.ensures.takes id clause is)

pub returns-in-Faulty-clause-takes : goal.returns-in-Faulty-clause-takes
returns-in-Faulty-clause-takes c id clause is = takes_as c.args.self.now c.refuse-in-Faulty.new.self c.args.line (refuses c.in-Faulty.why) (literal_taken c.args.self.now.variables id clause (token_said c.args.token)) (ap (λ (t : Token). literal_taken c.args.self.now.variables id clause (token_said t)) (sym c.in-Faulty.is)) c.refuse-in-Faulty.ensures.takes
