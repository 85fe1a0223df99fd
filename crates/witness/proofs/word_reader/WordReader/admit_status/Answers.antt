use Rattle.std.proofs.Common.{sym, ◌∙◌, refl}
use Rattle.witness.proofs.WordReaderLemmas.{comment_admitted, sat_admitted, header_refused}
use Rattle.witness.proofs.word_reader.WordReader.admit_status.Goals as goal

pub returns-then-is_comment-clause-line : goal.returns-then-is_comment-clause-line
returns-then-is_comment-clause-line c items r reads there = comment_admitted items r c.args.line.now c.args.self.now c.args.self.now refl reads there (sym (c.is_comment.ensures) ∙ c.if-is_comment.true)

pub returns-then-is_word-clause-line : goal.returns-then-is_word-clause-line
returns-then-is_word-clause-line c items r reads there =
    sat_admitted items r c.args.line.now _ _ c.self.view_is reads there (sym (c.is_comment.ensures) ∙ c.if-is_comment.false) (sym (c.is_word.ensures) ∙ c.if-is_word.true)

pub returns-clause-line : goal.returns-clause-line
returns-clause-line c items r reads there =
    header_refused items r c.args.line.now _ _ c.self.view_is reads there (sym (c.is_comment.ensures) ∙ c.if-is_comment.false) (sym (c.is_word.ensures) ∙ c.if-is_word.false)
