use Rattle.std.proofs.Common.{subst, sym}
use Rattle.witness.specs.WordStands.{WordJudge, StandsForWitness}
use Rattle.witness.proofs.ReachedLemmas.{word_reached_is}
use Rattle.witness.proofs.word_judge.WordJudge.has_reached.Goals as goal

pub returns : goal.returns
returns c items text fs stands trace =
    let now = subst (λ (j : WordJudge). StandsForWitness items j text) (sym c.self.view_is) stands in
    word_reached_is items text _ fs c.args.position c.reaches.result now trace c.reaches.ensures.flags c.reaches.ensures.there
