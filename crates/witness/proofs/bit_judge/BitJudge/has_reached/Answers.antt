use Rattle.std.proofs.Common.{nat_eq, ◌&&◌, subst, sym, ap₂}
use Rattle.witness.specs.BitStands.{BitJudge, StandsForBits}
use Rattle.witness.proofs.ReachedLemmas.{bit_reached_is}
use Rattle.witness.proofs.bit_judge.BitJudge.has_reached.Goals as goal

pub returns : goal.returns
returns c circuit text vs stands trace =
    let now = subst (λ (j : BitJudge). StandsForBits circuit j text) (sym c.self.view_is) stands in
    bit_reached_is circuit text _ vs c.args.position _ now trace (ap₂ (λ i x. nat_eq i c.args.position && x) c.claim.ensures c.rose.ensures)
