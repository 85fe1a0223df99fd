use Rattle.std.proofs.Common.{◌≡◌, ◌+◌, ◌-◌, arith}
use Rattle.aigertext.proofs.SectionLemmas.{input_lines_at}
use Rattle.base.proofs.PenLemmas.{write_none, write_more}
use Rattle.aigertext.proofs.writing.inputs_and_latches.put_inputs.Goals as goal

pub loop-index-init : goal.loop-index-init
loop-index-init g c = let none : c.args.count - 0 ≡ c.args.count = omega arith in rw none write_none

pub loop-index-preserved : goal.loop-index-preserved
loop-index-preserved g c =
    write_more c.loop-index.invariant c.put_number.ensures (input_lines_at (c.loop-index.index + 1) (c.args.count - c.loop-index.index) (c.args.count - (c.loop-index.index + 1)) (omega arith))
