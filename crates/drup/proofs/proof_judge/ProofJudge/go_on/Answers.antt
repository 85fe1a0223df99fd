use Rattle.std.proofs.Common.{ap, sym, subst, ◌∙◌}
use Rattle.std.proofs.lemmas.Bool.{ne_eqb}
use Rattle.drup.specs.ProofJudges.{ProofJudge, judge_of, StandsForText}
use Rattle.drup.proofs.ProofJudgeLemmas.{letter_line, letter_deletion}
use Rattle.drup.proofs.proof_judge.ProofJudge.go_on.Goals as goal

pub returns-then-byte-eq32 : goal.returns-then-byte-eq32
returns-then-byte-eq32 c f text b = letter_line f (judge_of c.self.inside) c.take.new.self c.take-then-byte-eq32.new.self text c.args.byte (ap (λ (x : ProofJudge). x.form) c.self.view_is ∙ c.requires) c.if-byte-eq32.true (c.take.ensures.stands f) (c.take-then-byte-eq32.ensures.stands f) (subst (λ (x : ProofJudge). StandsForText f x text) (sym c.self.view_is) b)

pub returns : goal.returns
returns c f text b = letter_deletion f (judge_of c.self.inside) c.take_byte.new.self c.take_byte-2.new.self text c.args.byte (ap (λ (x : ProofJudge). x.form) c.self.view_is ∙ c.requires) (ne_eqb c.args.byte 32 c.if-byte-eq32.false) (c.take_byte.ensures f) (c.take_byte-2.ensures f) (subst (λ (x : ProofJudge). StandsForText f x text) (sym c.self.view_is) b)
