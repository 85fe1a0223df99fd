use Rattle.std.proofs.Common.{◌++◌, List, ℕ, append_assoc, subst, sym, ap, ◌∙◌}
use Rattle.base.specs.Lines.{unfinished}
use Rattle.witness.specs.CutLines.{cut_of}
use Rattle.witness.specs.BitStands.{BitJudge, IsPlayed, StandsForBits, line_room}
use Rattle.witness.proofs.TextEndLemmas.{whole_lines-part, unfinished-part}
use Rattle.witness.proofs.bit_judge.BitJudge.feed.Goals as goal

pub returns : goal.returns
returns c circuit text stands =
    let was = c.loop-line.invariant circuit text stands in
    let all : List ℕ = text ++ was.0 in
    let rest : List ℕ = c.loop-line.rest.now in
    let now = subst (λ (j : BitJudge). StandsForBits circuit j all) (sym c.self.view_is) was.1.1 in
    subst (StandsForBits circuit _) (append_assoc text was.0 rest ∙ ap (λ (l : List ℕ). text ++ l) (sym was.1.0))
    (record {
      played = subst (IsPlayed circuit c.self.inside.lines c.self.inside.play) (sym (whole_lines-part all rest c.in_default.ensures)) now.played;
      line = c.extend.ensures.cut (line_room circuit) (unfinished all) now.line ∙ ap (cut_of (line_room circuit)) (sym (unfinished-part all rest c.in_default.ensures));
    })
