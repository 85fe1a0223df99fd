use Rattle.std.proofs.Common.{◌≡◌}
use Rattle.base.specs.Taking.{TakesFront}
use Rattle.base.proofs.takers.take_source.Given as goal

-- what was read was taken
abbrev pub invariant-loop-piece : goal.invariant-loop-piece
invariant-loop-piece g l = record {
  front : TakesFront g.T.Taker.stands (g.S.Source.to_come l.initial.source) (g.S.Source.to_come l.source) l.initial.output l.output l.initial.taker l.taker;
  read : g.S.Source.failures l.source ≡ g.S.Source.failures l.initial.source;
}

abbrev pub decreases-loop-piece : goal.decreases-loop-piece
decreases-loop-piece g l = g.S.Source.calls_left l.source
