use Rattle.std.proofs.Common.{ap, sym, subst, ◌∙◌}
use Rattle.drup.specs.ProofJudges.{ProofJudge, is_within, judge_of, StandsForBytes}
use Rattle.drup.proofs.ProofJudgeLemmas.{ends_closed, ends_within, ends_apart}
use Rattle.drup.proofs.proof_judge.ProofJudge.end_bytes.Goals as goal

pub returns-then-is_closed : goal.returns-then-is_closed
returns-then-is_closed c f text b = ends_closed f c.args.self.now text (sym c.is_closed.ensures ∙ c.if-is_closed.true) b

pub returns-then-is_within : goal.returns-then-is_within
returns-then-is_within c f text b =
    ends_within f (judge_of c.self.inside) (record { text = c.refuse.new.self; variables = c.refuse.new.self.variables; form = c.self.inside.form; step = c.self.inside.step; number = c.self.inside.number }) text
    (ap (λ (x : ProofJudge). x.text.reader.closed) c.self.view_is ∙ sym c.is_closed.ensures ∙ c.if-is_closed.false) (ap (λ (x : ProofJudge). is_within x.form) c.self.view_is ∙ sym c.is_within.ensures ∙ c.if-is_within.true)
    c.refuse.ensures.variables c.refuse.ensures.closed c.refuse.ensures.words (subst (λ (x : ProofJudge). StandsForBytes f x text) (sym c.self.view_is) b)

pub returns-else-is_within : goal.returns-else-is_within
returns-else-is_within c f text b = ends_apart f c.args.self.now text (sym c.is_closed.ensures ∙ c.if-is_closed.false) (sym c.is_within.ensures ∙ c.if-is_within.false) b
