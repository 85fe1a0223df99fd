use Rattle.std.proofs.Common.{[], subst, sym}
use Rattle.base.proofs.PenLemmas.{writes_none}
use Rattle.vcd.specs.Stands.{Waver, Waves}
use Rattle.vcd.proofs.WaverLemmas.{end_none, end_some}
use Rattle.vcd.proofs.waver.Waver.put_end.Goals as goal

pub returns-then-frames-ne0 : goal.returns-then-frames-ne0
returns-then-frames-ne0 g c = record {
  put = _;
  writes = c.put_moment.ensures;
  is = λ s items text put fs waves trace.
      let now = subst (λ (w : Waver). Waves s items w text put) (sym c.self.view_is) waves in
      sym (end_some items text fs c.closed_frames-frames.result trace (c.closed_frames-frames.ensures items text now.judge) c.if-frames-ne0.true);
}

pub returns-else-frames-ne0 : goal.returns-else-frames-ne0
returns-else-frames-ne0 g c = record {
  put = [];
  writes = writes_none;
  is = λ s items text put fs waves trace.
      let now = subst (λ (w : Waver). Waves s items w text put) (sym c.self.view_is) waves in
      sym (end_none items text fs c.closed_frames-frames.result trace (c.closed_frames-frames.ensures items text now.judge) c.if-frames-ne0.false);
}
