use Rattle.std.proofs.Common.{ℕ, [], ◌∷◌, ◌++◌, sym, ap, subst, refl, ◌∙◌, arith}
use Rattle.std.proofs.lemmas.Bool.{lt-ltb, le-ltb}
use Rattle.drup.specs.declared.proof_judge.Form.TheVariants as form
use Rattle.drup.specs.Words.{token_said}
use Rattle.drup.specs.BinaryProofs.{number_said}
use Rattle.drup.specs.ProofJudges.{ProofJudge, judge_of, StandsForBytes}
use Rattle.drup.proofs.ProofJudgeLemmas.{number_on, step_ends, number_ends}
use Rattle.drup.proofs.proof_judge.ProofJudge.take_within.Goals as goal

pub returns-then-byte-ge128 : goal.returns-then-byte-ge128
returns-then-byte-ge128 c f text b =
    number_on f (judge_of c.self.inside) (record { text = c.self.inside.text; variables = c.self.inside.text.variables; form = c.self.inside.form; step = c.self.inside.step; number = c.with-self-inside.result }) text c.args.byte (ap (λ (x : ProofJudge). x.text.reader.closed) c.self.view_is ∙ c.requires.open)
    (ap (λ (x : ProofJudge). x.form) c.self.view_is ∙ c.requires.within) (le-ltb c.args.byte 128 c.if-byte-ge128.true) refl refl refl c.with-self-inside.ensures (subst (λ (x : ProofJudge). StandsForBytes f x text) (sym c.self.view_is) b)

pub returns-then-is : goal.returns-then-is
returns-then-is c f text b =
    step_ends f (judge_of c.self.inside) (record { text = c.take_word.new.self; variables = c.take_word.new.self.variables; form = form.Steps; step = c.saturating_add-self-inside.result; number = c.new-self-inside.result }) text c.args.byte (ap (λ (x : ProofJudge). x.text.reader.closed) c.self.view_is ∙ c.requires.open)
    (ap (λ (x : ProofJudge). x.form) c.self.view_is ∙ c.requires.within) (lt-ltb c.args.byte 128 (omega (arith, c.if-byte-ge128.false))) (λ bytes s. sym (c.is.ensures bytes s) ∙ c.if-is.true)
    c.take_word.ensures.variables c.saturating_add-self-inside.ensures c.new-self-inside.ensures c.take_word.ensures.words (subst (λ (x : ProofJudge). StandsForBytes f x text) (sym c.self.view_is) b)

pub returns : goal.returns
returns c f text b =
    number_ends f (judge_of c.self.inside) (record { text = c.take_word-2.new.self; variables = c.take_word-2.new.self.variables; form = c.self.inside.form; step = c.self.inside.step; number = c.new-self-inside-2.result }) text c.args.byte (token_said c.token-token.result) (ap (λ (x : ProofJudge). x.text.reader.closed) c.self.view_is ∙ c.requires.open)
    (ap (λ (x : ProofJudge). x.form) c.self.view_is ∙ c.requires.within) (lt-ltb c.args.byte 128 (omega (arith, c.if-byte-ge128.false))) (λ bytes s. sym (c.is.ensures bytes s) ∙ c.if-is.false)
    (λ bytes s. c.token-token.ensures.said bytes s ∙ ap (λ (v : ℕ). number_said v (bytes ++ c.args.byte ∷ [])) c.variables.ensures.variables) c.take_word-2.ensures.variables refl refl c.new-self-inside-2.ensures c.take_word-2.ensures.words (subst (λ (x : ProofJudge). StandsForBytes f x text) (sym c.self.view_is) b)
