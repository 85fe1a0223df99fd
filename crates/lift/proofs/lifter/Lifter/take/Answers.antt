use Rattle.lift.proofs.LifterLemmas.{took_none, took_line, took_all}
use Rattle.lift.proofs.lifter.Lifter.take.Goals as goal

pub loop-line-init : goal.loop-line-init
loop-line-init g c = took_none

pub loop-line-preserved : goal.loop-line-preserved
loop-line-preserved g c = took_line _ c.loop-line.invariant c.in-Some.ensures.0 c.take_line.ensures

pub returns : goal.returns
returns g c = took_all c.loop-line.invariant c.in_default.ensures c.take_bytes.ensures
