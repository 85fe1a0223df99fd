use Rattle.std.proofs.Common.{◌≡◌, List, ℕ, ◌++◌, take, ap₂, subst, sym, ◌∙◌}
use Rattle.base.specs.Lines.{whole_lines, unfinished}
use Rattle.witness.specs.Texts.{shape_of}
use Rattle.witness.specs.Readings.{lines_read}
use Rattle.witness.specs.Admits.{word_reader}
use Rattle.witness.specs.KeptLines.{kept}
use Rattle.witness.specs.WordStands.{WordJudge, word_judging, StandsForWitness}
use Rattle.witness.proofs.KeptLineLemmas.{kept_more}
use Rattle.witness.proofs.StandsLemmas.{part_more, no_refusal, some_refusal}
use Rattle.witness.proofs.WordJudgeLemmas.{counts_of}
use Rattle.witness.proofs.word_judge.WordJudge.take_part.Goals as goal

pub returns-then-is_none-clause-stands : goal.returns-then-is_none-clause-stands
returns-then-is_none-clause-stands c items text one stands =
    let now = subst (λ (j : WordJudge). StandsForWitness items j text) (sym c.self.view_is) stands in
    let none = no_refusal c.self.inside.lines.refused c.if-is_none.ensures in
    let read = (lines_read (word_reader (shape_of items)) (whole_lines text)).read in
    let reads = c.take.ensures items read (unfinished text) (now.lines.reads none) in
    let keeps : c.extend.new.self.bytes ≡ kept (unfinished text ++ c.args.bytes.now) = c.extend.ensures.bytes ∙ (ap₂ (λ (n : ℕ) (l : List ℕ). take n (l ++ c.args.bytes.now)) c.self.invariant now.line ∙ kept_more (unfinished text) c.args.bytes.now) in
    part_more (word_judging items) text c.args.bytes.now _ c.take.new.self c.extend.new.self.bytes one now keeps (counts_of items c.take.new.self read _ reads) (λ _. reads)

pub returns-else-is_none-clause-stands : goal.returns-else-is_none-clause-stands
returns-else-is_none-clause-stands c items text one stands =
    let now = subst (λ (j : WordJudge). StandsForWitness items j text) (sym c.self.view_is) stands in
    let refused = some_refusal c.self.inside.lines.refused c.if-is_none.ensures in
    let keeps : c.extend.new.self.bytes ≡ kept (unfinished text ++ c.args.bytes.now) = c.extend.ensures.bytes ∙ (ap₂ (λ (n : ℕ) (l : List ℕ). take n (l ++ c.args.bytes.now)) c.self.invariant now.line ∙ kept_more (unfinished text) c.args.bytes.now) in
    part_more (word_judging items) text c.args.bytes.now _ c.self.inside.lines.reader c.extend.new.self.bytes one now keeps now.lines.counts (λ none. absurd (cc (none, refused.1)))
