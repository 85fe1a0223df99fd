use Rattle.vcd.proofs.WaverLemmas.{waves_none}
use Rattle.vcd.proofs.waver.Waver.new.Goals as goal

pub returns-in-Ok-new-clause-ok : goal.returns-in-Ok-new-clause-ok
returns-in-Ok-new-clause-ok c =
    waves_none c.args.shown c.args.model.now (record { judge = c.in-Ok-new.judge; signals = c.in-Ok.signals.items }) c.items-items.ensures.well_formed c.in-Ok-new.ensures.ok c.in-Ok.ensures.signals
