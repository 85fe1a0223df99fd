use Rattle.std.proofs.Common.{Bool, ap, sym, ◌∙◌}
use Rattle.std.specs.Prelude.{if◌then◌else◌}
use Rattle.base.specs.Decimals.{is_nothing}
use Rattle.drup.specs.declared.why.Why.TheVariants as why
use Rattle.lrat.specs.HintedProofs.{deletions, goes_on, refuses}
use Rattle.lrat.proofs.StepReaderLemmas.{takes_as}
use Rattle.lrat.proofs.step_reader.StepReader.take_letter.Goals as goal

pub returns-then-has_no_literals-clause-takes : goal.returns-then-has_no_literals-clause-takes
returns-then-has_no_literals-clause-takes c id clause is =
    takes_as c.args.self.now c.begin_deletions.new.self c.args.line (goes_on deletions) (if is_nothing clause then goes_on deletions else refuses why.BadWord)
    (ap (λ (b : Bool). if b then goes_on deletions else refuses why.BadWord) (sym c.if-has_no_literals.true ∙ c.has_no_literals.ensures id clause is)) (c.begin_deletions.ensures.takes c.args.line)

pub returns-clause-takes : goal.returns-clause-takes
returns-clause-takes c id clause is =
    takes_as c.args.self.now c.refuse.new.self c.args.line (refuses why.BadWord) (if is_nothing clause then goes_on deletions else refuses why.BadWord)
    (ap (λ (b : Bool). if b then goes_on deletions else refuses why.BadWord) (sym c.if-has_no_literals.false ∙ c.has_no_literals.ensures id clause is)) c.refuse.ensures.takes
