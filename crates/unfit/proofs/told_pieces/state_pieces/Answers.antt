use Rattle.std.proofs.Common.{ap, length, arith}
use Rattle.unfit.proofs.PieceLemmas.{state_more, all_states}
use Rattle.unfit.proofs.told_pieces.state_pieces.Goals as goal

pub loop-k-preserved : goal.loop-k-preserved
loop-k-preserved c = state_more c.args.model.now c.loop-k.pieces.items c.push.new.self.items c.loop-k.k c.state_word.result (omega (arith, c.loop-k-test.true, ap length c.states-k-end.ensures)) c.loop-k.invariant c.state_word.ensures c.in_ok-push.ensures.items

pub returns : goal.returns
returns c = all_states c.args.model.now c.loop-k.pieces.items c.loop-k.k (omega (arith, c.loop-k-test.false, ap length c.states-k-end.ensures)) c.loop-k.invariant
