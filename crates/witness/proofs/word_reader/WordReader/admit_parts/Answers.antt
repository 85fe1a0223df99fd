use Rattle.std.proofs.Common.{sym, ◌∙◌, arith}
use Rattle.witness.proofs.WordReaderLemmas.{states_opened, frame_opened, parts_refused}
use Rattle.witness.proofs.word_reader.WordReader.admit_parts.Goals as goal

pub returns-then-is_numbered-clause-line : goal.returns-then-is_numbered-clause-line
returns-then-is_numbered-clause-line c items r reads there =
    states_opened items r c.args.line.now _ _ c.self.view_is reads there (sym (c.is_numbered.ensures (omega arith)) ∙ c.if-is_numbered.true)

pub returns-then-is_numbered-2-clause-line : goal.returns-then-is_numbered-2-clause-line
returns-then-is_numbered-2-clause-line c items r reads there =
    frame_opened items r c.args.line.now _ _ c.self.view_is reads there (sym (c.is_numbered.ensures (omega arith)) ∙ c.if-is_numbered.false) (sym (c.is_numbered-2.ensures (omega arith)) ∙ c.if-is_numbered-2.true)

pub returns-clause-line : goal.returns-clause-line
returns-clause-line c items r reads there =
    parts_refused items r c.args.line.now _ _ c.self.view_is reads there (sym (c.is_numbered.ensures (omega arith)) ∙ c.if-is_numbered.false) (sym (c.is_numbered-2.ensures (omega arith)) ∙ c.if-is_numbered-2.false)
