use Rattle.std.proofs.Common.{◌∙◌}
use Rattle.vcd.proofs.WaverLemmas.{took_none, line_with_end, took_line, took_all}
use Rattle.vcd.proofs.waver.Waver.take.Goals as goal

pub loop-line-init : goal.loop-line-init
loop-line-init g c = took_none

pub take_line-requires-clause-whole : goal.take_line-requires-clause-whole
take_line-requires-clause-whole g c = c.split_at.ensures.front ∙ line_with_end c.loop-line.rest.now c.in-Some.line.now c.in-Some.behind.now c.in-Some.ensures.0

pub loop-line-preserved : goal.loop-line-preserved
loop-line-preserved g c = took_line _ c.loop-line.invariant c.in-Some.ensures.0 c.take_line.ensures

pub returns : goal.returns
returns g c = took_all c.loop-line.invariant c.in_default.ensures c.take_bytes.ensures
