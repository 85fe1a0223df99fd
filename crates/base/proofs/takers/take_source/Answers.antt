use Rattle.std.proofs.Common.{refl, ◌∙◌}
use Rattle.base.proofs.TakingLemmas.{front_nothing, front_more}
use Rattle.base.proofs.takers.take_source.Goals as goal

pub loop-piece-init : goal.loop-piece-init
loop-piece-init g c = record { front = front_nothing g.T.Taker.stands _ _ _; read = refl }

pub loop-piece-preserved : goal.loop-piece-preserved
loop-piece-preserved g c = record {
  front = front_more c.loop-piece.invariant.front c.in-Ok.ensures.bytes.0 c.take.ensures;
  read = c.in-Ok.ensures.failures ∙ c.loop-piece.invariant.read;
}
