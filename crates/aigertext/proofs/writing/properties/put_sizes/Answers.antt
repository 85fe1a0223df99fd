use Rattle.std.proofs.Common.{◌≤◌, length, arith}
use Rattle.aiger.specs.Limits.{greatest_count}
use Rattle.aigertext.proofs.SectionLemmas.{few_literals, size_lines_at}
use Rattle.base.proofs.PenLemmas.{write_none, write_more}
use Rattle.aigertext.proofs.writing.properties.put_sizes.Goals as goal

pub overflow_cast-justice : goal.overflow_cast-justice
overflow_cast-justice g c =
    let small : length c.justice.result.now ≤ greatest_count = few_literals c.args.circuit.now c.loop-index.index c.justice.result.now c.justice.ensures.valid c.justice.ensures.items in
    omega arith

pub loop-index-init : goal.loop-index-init
loop-index-init g c = write_none

pub loop-index-preserved : goal.loop-index-preserved
loop-index-preserved g c = write_more c.loop-index.invariant c.put_number.ensures (size_lines_at c.loop-index.index c.args.circuit.now.justice c.justice.result.now c.justice.ensures.items)
