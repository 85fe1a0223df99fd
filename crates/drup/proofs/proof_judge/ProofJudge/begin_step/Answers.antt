use Rattle.std.proofs.Common.{sym, ap, subst, refl, ◌∙◌}
use Rattle.std.proofs.lemmas.Bool.{ne_eqb}
use Rattle.drup.specs.declared.proof_judge.Form.TheVariants as form
use Rattle.drup.specs.declared.why.Why.TheVariants as why
use Rattle.drup.specs.ProofJudges.{ProofJudge, judge_of, StandsForBytes}
use Rattle.drup.proofs.BytesLemmas.{begins_too_many, begins_badly}
use Rattle.drup.proofs.ProofJudgeLemmas.{step_refused, addition_begins, deletion_begins}
use Rattle.drup.proofs.proof_judge.ProofJudge.begin_step.Goals as goal

pub returns-then-is_too_many : goal.returns-then-is_too_many
returns-then-is_too_many c f text b =
    step_refused f (judge_of c.self.inside) (record { text = c.refuse.new.self; variables = c.refuse.new.self.variables; form = c.self.inside.form; step = c.self.inside.step; number = c.self.inside.number }) text c.args.byte why.TooLong (ap (λ (x : ProofJudge). x.text.reader.closed) c.self.view_is ∙ c.requires.open)
    (ap (λ (x : ProofJudge). x.form) c.self.view_is ∙ c.requires.before) refl c.refuse.ensures.variables c.refuse.ensures.closed c.refuse.ensures.words
    (λ more. begins_too_many c.self.inside.text.variables c.self.inside.step c.args.byte more (sym c.is_too_many.ensures ∙ c.if-is_too_many.true)) (subst (λ (x : ProofJudge). StandsForBytes f x text) (sym c.self.view_is) b)

pub returns-then-byte-eq97 : goal.returns-then-byte-eq97
returns-then-byte-eq97 c f text b =
    addition_begins f (judge_of c.self.inside) text c.args.byte (ap (λ (x : ProofJudge). x.text.reader.closed) c.self.view_is ∙ c.requires.open)
    (ap (λ (x : ProofJudge). x.form) c.self.view_is ∙ c.requires.before) (sym c.is_too_many.ensures ∙ c.if-is_too_many.false) c.if-byte-eq97.true (subst (λ (x : ProofJudge). StandsForBytes f x text) (sym c.self.view_is) b)

pub returns-then-byte-eq100 : goal.returns-then-byte-eq100
returns-then-byte-eq100 c f text b =
    deletion_begins f (judge_of c.self.inside) (record { text = c.take_word.new.self; variables = c.take_word.new.self.variables; form = form.Literals; step = c.self.inside.step; number = c.self.inside.number }) text c.args.byte (ap (λ (x : ProofJudge). x.text.reader.closed) c.self.view_is ∙ c.requires.open)
    (ap (λ (x : ProofJudge). x.form) c.self.view_is ∙ c.requires.before) (sym c.is_too_many.ensures ∙ c.if-is_too_many.false) c.if-byte-eq100.true c.take_word.ensures.variables refl refl c.take_word.ensures.words (subst (λ (x : ProofJudge). StandsForBytes f x text) (sym c.self.view_is) b)

pub returns : goal.returns
returns c f text b =
    step_refused f (judge_of c.self.inside) (record { text = c.refuse-2.new.self; variables = c.refuse-2.new.self.variables; form = c.self.inside.form; step = c.self.inside.step; number = c.self.inside.number }) text c.args.byte why.BadWord (ap (λ (x : ProofJudge). x.text.reader.closed) c.self.view_is ∙ c.requires.open)
    (ap (λ (x : ProofJudge). x.form) c.self.view_is ∙ c.requires.before) refl c.refuse-2.ensures.variables c.refuse-2.ensures.closed c.refuse-2.ensures.words
    (λ more. begins_badly c.self.inside.text.variables c.self.inside.step c.args.byte more (sym c.is_too_many.ensures ∙ c.if-is_too_many.false) (ne_eqb c.args.byte 97 c.if-byte-eq97.false) (ne_eqb c.args.byte 100 c.if-byte-eq100.false)) (subst (λ (x : ProofJudge). StandsForBytes f x text) (sym c.self.view_is) b)
