use Rattle.std.proofs.Common.{ap, sym, subst, ◌∙◌}
use Rattle.std.proofs.lemmas.Bool.{ne_eqb}
use Rattle.drup.specs.ProofJudges.{ProofJudge, judge_of, StandsForText}
use Rattle.drup.proofs.ProofJudgeLemmas.{first_letter, first_addition, first_line}
use Rattle.drup.proofs.proof_judge.ProofJudge.begin.Goals as goal

pub returns-then-byte-eq100 : goal.returns-then-byte-eq100
returns-then-byte-eq100 c f text b = first_letter f (judge_of c.self.inside) text c.args.byte (ap (λ (x : ProofJudge). x.form) c.self.view_is ∙ c.requires) c.if-byte-eq100.true (subst (λ (x : ProofJudge). StandsForText f x text) (sym c.self.view_is) b)

pub returns-then-byte-eq97 : goal.returns-then-byte-eq97
returns-then-byte-eq97 c f text b = first_addition f (judge_of c.self.inside) c.take_byte.new.self text c.args.byte (ap (λ (x : ProofJudge). x.form) c.self.view_is ∙ c.requires) c.if-byte-eq97.true (c.take_byte.ensures f) (subst (λ (x : ProofJudge). StandsForText f x text) (sym c.self.view_is) b)

pub returns : goal.returns
returns c f text b =
    first_line f (judge_of c.self.inside) c.take.new.self text c.args.byte (ap (λ (x : ProofJudge). x.form) c.self.view_is ∙ c.requires) (ne_eqb c.args.byte 97 c.if-byte-eq97.false) (ne_eqb c.args.byte 100 c.if-byte-eq100.false) (c.take.ensures.stands f) (subst (λ (x : ProofJudge). StandsForText f x text) (sym c.self.view_is) b)
