use Rattle.std.proofs.Common.{List, ℕ, [], ◌∷◌, ◌++◌, append_assoc, subst, sym, ap, ◌∙◌}
use Rattle.base.specs.Lines.{whole_lines, unfinished}
use Rattle.witness.specs.KeptLines.{kept, AreAlike}
use Rattle.witness.specs.Stands.{IsOfLines}
use Rattle.witness.specs.CutLines.{CutLine}
use Rattle.witness.specs.WordStands.{WordJudge, word_judging, StandsForWitness}
use Rattle.witness.specs.WordJudging.{judge_with}
use Rattle.witness.proofs.TextEndLemmas.{whole_lines-end, unfinished-end}
use Rattle.witness.proofs.KeptLineLemmas.{kept_alike}
use Rattle.witness.proofs.StandsLemmas.{line_ended, with_bytes}
use Rattle.witness.proofs.word_judge.WordJudge.take_rest.Goals as goal

pub returns : goal.returns
returns c items text line stands none =
    let all : List ℕ = text ++ c.args.bytes.now in
    let now = subst (λ (j : WordJudge). StandsForWitness items j all) (sym c.self.view_is) (c.take_part.ensures.stands items text line stands) in
    let fresh = ap (λ (j : WordJudge). j.refused) c.self.view_is ∙ (c.take_part.ensures.refused ∙ none) in
    let alike : AreAlike c.bytes.result.now (unfinished all) = ap kept (c.bytes.ensures ∙ now.line) ∙ kept_alike (unfinished all) in
    let judged : IsOfLines (word_judging items) (judge_with c.judge.new.self c.clear.new.self.bytes) (whole_lines all ++ unfinished all ∷ []) [] =
    c.judge.ensures items c.clear.new.self.bytes (whole_lines all) (unfinished all) (with_bytes (word_judging items) (whole_lines all) (unfinished all) (unfinished all) _ c.self.inside.lines.reader c.clear.new.self.bytes now.lines now.lines.counts now.lines.reads) alike fresh in
    subst (StandsForWitness items (judge_with c.judge.new.self c.clear.new.self.bytes)) (append_assoc text c.args.bytes.now (10 ∷ []))
    (line_ended (word_judging items) (all ++ 10 ∷ []) (whole_lines all ++ unfinished all ∷ []) (judge_with c.judge.new.self c.clear.new.self.bytes) (whole_lines-end all) (unfinished-end all) judged (ap (λ (l : CutLine). l.bytes) c.clear.ensures))
