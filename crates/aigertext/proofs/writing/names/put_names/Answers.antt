use Rattle.std.proofs.Common.{arith}
use Rattle.aigertext.proofs.SectionLemmas.{name_lines_at, no_name_lines}
use Rattle.base.proofs.PenLemmas.{write_none, write_more, write_all}
use Rattle.aigertext.proofs.writing.names.put_names.Goals as goal

pub loop-position-init : goal.loop-position-init
loop-position-init g c = write_none

pub loop-position-preserved : goal.loop-position-preserved
loop-position-preserved g c = write_more c.loop-position.invariant c.put_name_at.ensures (name_lines_at c.loop-position.position c.args.section c.args.circuit.now (omega arith))

pub returns : goal.returns
returns g c = write_all c.loop-position.invariant (no_name_lines c.loop-position.position c.args.section c.args.circuit.now (omega arith))
