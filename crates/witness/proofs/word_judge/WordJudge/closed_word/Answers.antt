use Rattle.std.proofs.Common.{◌≡◌, true, cond, None, subst, sym}
use Rattle.btor2.specs.Trace.{Frame}
use Rattle.runs.specs.Run.{IsNow}
use Rattle.witness.specs.WordPlays.{WordPlay, word_at}
use Rattle.witness.specs.WordStands.{WordJudge, StandsForWitness}
use Rattle.witness.proofs.WordJudgeLemmas.{closed_word_is}
use Rattle.witness.proofs.word_judge.WordJudge.closed_word.Goals as goal

pub returns : goal.returns
returns c items text fs stands trace =
    let now = subst (λ (j : WordJudge). StandsForWitness items j text) (sym c.self.view_is) stands in
    closed_word_is items text _ fs c.args.node c.closed_word.result now trace
    (subst (λ (p : WordPlay). (f : Frame) → (p.run.settled ≡ true → IsNow p.run f) → c.closed_word.result ≡ cond p.run.settled (word_at p.items f c.args.node) None) c.play.ensures c.closed_word.ensures)
