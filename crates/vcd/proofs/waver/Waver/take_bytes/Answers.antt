use Rattle.std.proofs.Common.{refl, sym, subst}
use Rattle.vcd.specs.Stands.{Waver, Waves}
use Rattle.vcd.proofs.WaverLemmas.{waves_bytes}
use Rattle.vcd.proofs.waver.Waver.take_bytes.Goals as goal

pub returns : goal.returns
returns c s items text put is h =
    let w = subst (λ (w : Waver). Waves s items w text put) (sym c.self.view_is) h in
    waves_bytes s items text put c.args.bytes.now (record { judge = c.self.inside.judge; signals = c.self.inside.signals.items }) (record { judge = c.feed.new.self; signals = c.self.inside.signals.items }) is w (c.feed.ensures items text w.judge) refl
