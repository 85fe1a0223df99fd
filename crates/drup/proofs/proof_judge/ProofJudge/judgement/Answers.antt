use Rattle.std.proofs.Common.{ap, sym, subst, inl, inr, ◌∙◌}
use Rattle.drup.specs.ProofJudges.{ProofJudge, judge_of, StandsForText}
use Rattle.drup.proofs.ProofJudgeLemmas.{judges_empty, judges_letter, judges_lines, judges_bytes}
use Rattle.drup.proofs.proof_judge.ProofJudge.judgement.Goals as goal

pub returns-in-Empty : goal.returns-in-Empty
returns-in-Empty c f text b = judges_empty f (judge_of c.self.inside) text c.judgement.result (ap (λ (x : ProofJudge). x.form) c.self.view_is ∙ (sym c.form.ensures ∙ c.in-Empty.is)) (c.judgement.ensures f) (subst (λ (x : ProofJudge). StandsForText f x text) (sym c.self.view_is) b)

pub returns-in-Letter : goal.returns-in-Letter
returns-in-Letter c f text b = judges_letter f (judge_of c.self.inside) c.take.new.self text c.judgement-in-Letter.result (ap (λ (x : ProofJudge). x.form) c.self.view_is ∙ (sym c.form.ensures ∙ c.in-Letter.is)) (c.take.ensures.stands f) (c.judgement-in-Letter.ensures f) (subst (λ (x : ProofJudge). StandsForText f x text) (sym c.self.view_is) b)

pub returns-in-Lines : goal.returns-in-Lines
returns-in-Lines c f text b = judges_lines f (judge_of c.self.inside) text c.judgement-in-Lines.result (ap (λ (x : ProofJudge). x.form) c.self.view_is ∙ (sym c.form.ensures ∙ c.in-Lines.is)) (c.judgement-in-Lines.ensures f) (subst (λ (x : ProofJudge). StandsForText f x text) (sym c.self.view_is) b)

pub returns-in-Steps : goal.returns-in-Steps
returns-in-Steps c f text b = judges_bytes f c.args.self.now text c.judge_bytes.result (inl (sym c.form.ensures ∙ c.in-Steps.is)) (c.judge_bytes.ensures f) b

pub returns-in-Literals : goal.returns-in-Literals
returns-in-Literals c f text b = judges_bytes f c.args.self.now text c.judge_bytes-in-Literals.result (inr (sym c.form.ensures ∙ c.in-Literals.is)) (c.judge_bytes-in-Literals.ensures f) b
