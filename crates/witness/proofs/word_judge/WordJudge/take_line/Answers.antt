use Rattle.std.proofs.Common.{◌≡◌, true, [], ◌∷◌, ◌++◌, List, ℕ, subst, sym, ap, ◌∙◌, refl}
use Rattle.base.specs.Lines.{whole_lines, unfinished}
use Rattle.witness.specs.Texts.{shape_of}
use Rattle.witness.specs.Readings.{lines_read}
use Rattle.witness.specs.Admits.{word_reader}
use Rattle.witness.specs.KeptLines.{kept, AreAlike}
use Rattle.witness.specs.Stands.{IsOfLines}
use Rattle.witness.specs.CutLines.{CutLine}
use Rattle.witness.specs.WordJudging.{judge_with}
use Rattle.witness.specs.WordStands.{WordJudge, word_judging, StandsForWitness, is_alone, place_of}
use Rattle.witness.proofs.TextEndLemmas.{whole_lines-line_end, unfinished-line_end}
use Rattle.witness.proofs.WordReaderLemmas.{reads_of_other}
use Rattle.witness.proofs.StandsLemmas.{line_ended, stays_refused, with_bytes, no_refusal, some_refusal}
use Rattle.witness.proofs.WordJudgeLemmas.{claims_more}
use Rattle.witness.proofs.word_judge.WordJudge.take_line.Goals as goal

pub returns-then-is_some : goal.returns-then-is_some
returns-then-is_some c items text line stands =
    let now = subst (λ (j : WordJudge). StandsForWitness items j text) (sym c.self.view_is) stands in
    let bytes : List ℕ = c.args.bytes.now in
    let refused = some_refusal c.self.inside.lines.refused (sym c.if-is_some.ensures) in
    line_ended (word_judging items) (text ++ (bytes ++ 10 ∷ [])) (whole_lines text ++ (unfinished text ++ bytes) ∷ []) _ (whole_lines-line_end text bytes line) (unfinished-line_end text bytes)
    (stays_refused (word_judging items) (claims_more items) (whole_lines text) (unfinished text ++ bytes) (unfinished text) _ now.lines refused.0 refused.1 c.clear.new.self.bytes) (ap (λ (l : CutLine). l.bytes) c.clear.ensures)

pub returns-then-takes_whole_lines : goal.returns-then-takes_whole_lines
returns-then-takes_whole_lines c items text line stands =
    let now = subst (λ (j : WordJudge). StandsForWitness items j text) (sym c.self.view_is) stands in
    let bytes : List ℕ = c.args.bytes.now in
    let none = no_refusal c.self.inside.lines.refused (sym c.if-is_some.ensures) in
    let alone : is_alone (place_of c.self.inside.lines.reader.place) ≡ true = ap (λ (j : WordJudge). is_alone (place_of j.reader.place)) c.self.view_is ∙ c.takes_whole_lines.ensures.alone c.if-takes_whole_lines.true in
    let empty : unfinished text ≡ [] = c.takes_whole_lines.ensures.begins items text stands c.if-takes_whole_lines.true in
    let here : IsOfLines (word_judging items) (judge_with c.self.inside.lines c.self.inside.line.bytes) (whole_lines text) (unfinished text ++ bytes) =
    with_bytes (word_judging items) (whole_lines text) (unfinished text) (unfinished text ++ bytes) _ c.self.inside.lines.reader c.self.inside.line.bytes now.lines now.lines.counts
    (λ none. reads_of_other items (lines_read (word_reader (shape_of items)) (whole_lines text)).read (unfinished text) c.self.inside.lines.reader c.self.inside.lines.reader refl (now.lines.reads none) (unfinished text ++ bytes) alone) in
    let alike : AreAlike bytes (unfinished text ++ bytes) = ap (λ (l : List ℕ). kept (l ++ bytes)) (sym empty) in
    line_ended (word_judging items) (text ++ (bytes ++ 10 ∷ [])) (whole_lines text ++ (unfinished text ++ bytes) ∷ []) (judge_with c.judge.new.self c.self.inside.line.bytes) (whole_lines-line_end text bytes line) (unfinished-line_end text bytes)
    (c.judge.ensures items c.self.inside.line.bytes (whole_lines text) (unfinished text ++ bytes) here alike none) (now.line ∙ ap kept empty)
