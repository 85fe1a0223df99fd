use Rattle.std.proofs.Common.{ℕ, ◌++◌, sym, subst, ◌∙◌}
use Rattle.base.proofs.DecimalLemmas.{nothing}
use Rattle.drup.specs.Words.{SpellsWord, IsBelow, token_said}
use Rattle.drup.specs.StepReaders.{StandsForWords}
use Rattle.drup.specs.TextJudges.{TextJudge, word_marks}
use Rattle.drup.proofs.TextJudgeLemmas.{end_none, end_some}
use Rattle.drup.proofs.text_judge.TextJudge.end_word.Goals as goal

pub returns-then-is_empty-clause-words : goal.returns-then-is_empty-clause-words
returns-then-is_empty-clause-words c f marks bytes spells s =
    let own : SpellsWord c.self.inside.word bytes = subst (λ (x : TextJudge). SpellsWord x.word bytes) (sym c.self.view_is) spells in
    end_none f c.args.self.now.reader marks c.args.self.now.variables c.args.self.now.line bytes (sym (c.is_empty.ensures bytes own) ∙ c.if-is_empty.true) s

pub returns-then-is_empty-clause-word : goal.returns-then-is_empty-clause-word
returns-then-is_empty-clause-word c bytes spells =
    let own : SpellsWord c.self.inside.word bytes = subst (λ (x : TextJudge). SpellsWord x.word bytes) (sym c.self.view_is) spells in
    subst (SpellsWord c.args.self.now.word) (nothing bytes (sym (c.is_empty.ensures bytes own) ∙ c.if-is_empty.true)) spells

pub take-requires-clause-below : goal.take-requires-clause-below
take-requires-clause-below c = subst (λ (n : ℕ). IsBelow n c.token.result) (sym c.self.invariant.limit) c.token.ensures.below

pub returns-clause-words : goal.returns-clause-words
returns-clause-words c f marks bytes spells s =
    let own : SpellsWord c.self.inside.word bytes = subst (λ (x : TextJudge). SpellsWord x.word bytes) (sym c.self.view_is) spells in
    subst (λ (x : TextJudge). StandsForWords f c.take.new.self (marks ++ word_marks x.variables x.line bytes)) c.self.view_is
    (end_some f c.take.new.self marks c.self.inside.variables c.self.inside.line bytes (token_said c.token.result) (sym (c.is_empty.ensures bytes own) ∙ c.if-is_empty.false) (c.token.ensures.said bytes own)
    (c.take.ensures.stands f marks (subst (λ (x : TextJudge). StandsForWords f x.reader marks) (sym c.self.view_is) s)))

pub returns-clause-word : goal.returns-clause-word
returns-clause-word c bytes spells = c.new-self-inside.ensures
