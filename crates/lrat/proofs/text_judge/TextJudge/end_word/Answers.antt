use Rattle.std.proofs.Common.{◌++◌, sym, subst, ◌∙◌}
use Rattle.base.proofs.DecimalLemmas.{nothing}
use Rattle.drup.specs.Words.{SpellsWord}
use Rattle.lrat.specs.Words.{token_said}
use Rattle.lrat.specs.StepReaders.{StandsForWords}
use Rattle.lrat.specs.TextJudges.{TextJudge, word_marks}
use Rattle.lrat.proofs.TextJudgeLemmas.{end_none, end_some}
use Rattle.lrat.proofs.text_judge.TextJudge.end_word.Goals as goal

pub returns-then-is_empty-clause-words : goal.returns-then-is_empty-clause-words
returns-then-is_empty-clause-words c f marks bytes spells s =
    let own : SpellsWord c.self.inside.word bytes = subst (λ (x : TextJudge). SpellsWord x.word bytes) (sym c.self.view_is) spells in
    end_none f c.args.self.now.reader marks c.args.self.now.line bytes (sym (c.is_empty.ensures bytes own) ∙ c.if-is_empty.true) s

pub returns-then-is_empty-clause-word : goal.returns-then-is_empty-clause-word
returns-then-is_empty-clause-word c bytes spells =
    let own : SpellsWord c.self.inside.word bytes = subst (λ (x : TextJudge). SpellsWord x.word bytes) (sym c.self.view_is) spells in
    subst (SpellsWord c.args.self.now.word) (nothing bytes (sym (c.is_empty.ensures bytes own) ∙ c.if-is_empty.true)) spells

pub returns-clause-words : goal.returns-clause-words
returns-clause-words c f marks bytes spells s =
    let own : SpellsWord c.self.inside.word bytes = subst (λ (x : TextJudge). SpellsWord x.word bytes) (sym c.self.view_is) spells in
    subst (λ (x : TextJudge). StandsForWords f c.take.new.self (marks ++ word_marks x.line bytes)) c.self.view_is
    (end_some f c.take.new.self marks c.self.inside.line bytes (token_said c.of_word.result) (sym (c.is_empty.ensures bytes own) ∙ c.if-is_empty.false) (c.of_word.ensures bytes own)
    (c.take.ensures.stands f marks (subst (λ (x : TextJudge). StandsForWords f x.reader marks) (sym c.self.view_is) s)))

pub returns-clause-word : goal.returns-clause-word
returns-clause-word c bytes spells = c.new-self-inside.ensures
