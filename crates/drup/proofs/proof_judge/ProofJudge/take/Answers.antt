use Rattle.std.proofs.Common.{ap, sym, subst, [], ◌∷◌, inl, inr, ◌∙◌}
use Rattle.drup.specs.ProofJudges.{ProofJudge, judge_of, StandsForText}
use Rattle.drup.proofs.ProofJudgeLemmas.{lines_more, bytes_more}
use Rattle.drup.proofs.proof_judge.ProofJudge.take.Goals as goal

pub returns-in-Lines : goal.returns-in-Lines
returns-in-Lines c f text b = lines_more f (judge_of c.self.inside) c.take.new.self text (c.args.byte ∷ []) (ap (λ (x : ProofJudge). x.form) c.self.view_is ∙ (sym c.form.ensures ∙ c.in-Lines.is)) (c.take.ensures.stands f) (subst (λ (x : ProofJudge). StandsForText f x text) (sym c.self.view_is) b)

pub returns-in-Steps : goal.returns-in-Steps
returns-in-Steps c f text b = bytes_more f c.args.self.now c.take_byte.new.self text (c.args.byte ∷ []) (inl (sym c.form.ensures ∙ c.in-Steps.is)) (c.take_byte.ensures f) b

pub returns-in-Literals : goal.returns-in-Literals
returns-in-Literals c f text b = bytes_more f c.args.self.now c.take_byte-in-Literals.new.self text (c.args.byte ∷ []) (inr (sym c.form.ensures ∙ c.in-Literals.is)) (c.take_byte-in-Literals.ensures f) b
