use Rattle.std.proofs.Common.{sym, subst, ap, ◌∙◌, arith}
use Rattle.base.specs.Lines.{unfinished}
use Rattle.witness.specs.Readings.{is_nothing}
use Rattle.witness.specs.CutLines.{CutLine}
use Rattle.witness.specs.BitJudgements.{BitJudges}
use Rattle.witness.specs.BitStands.{BitJudge, StandsForBits, line_room}
use Rattle.witness.proofs.CutLineLemmas.{nothing_cut}
use Rattle.witness.proofs.BitJudgeLemmas.{whole_judged}
use Rattle.witness.proofs.bit_judge.BitJudge.judgement.Goals as goal

pub returns-in-None : goal.returns-in-None
returns-in-None c circuit text stands =
    let now = subst (λ (j : BitJudge). StandsForBits circuit j text) (sym c.self.view_is) stands in
    let empty = c.is_empty.ensures ∙ (ap (λ (k : CutLine). is_nothing k.bytes) now.line ∙ nothing_cut (line_room circuit) (unfinished text) (omega arith)) in
    subst (BitJudges circuit text) (sym c.judgement.ensures)
    (whole_judged circuit text c.self.inside.play c.claim.result (c.in-None.ensures circuit text now.played.lines empty) now.played.play (c.claim.ensures ∙ now.played.lines.counts.claim))
