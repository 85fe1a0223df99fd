use Rattle.std.proofs.Common.{arith, ◌<◌, length}
use Rattle.capi.specs.Judged.{claims_from}
use Rattle.capi.proofs.JudgedLemmas.{claims_next}
use Rattle.capi.proofs.claiming.claims_of.Goals as goal

pub loop-position-preserved : goal.loop-position-preserved
loop-position-preserved c =
    let there : c.loop-position.position < length c.args.firsts.now = omega (arith, c.loop-position-test.true, c.len-position-end.ensures) in
    rw c.in_ok-push_claim.ensures (rw c.frame.ensures (claims_next c.loop-position.position c.args.firsts.now c.loop-position.claims.items (claims_from 0 c.args.firsts.now) there c.loop-position.invariant))
