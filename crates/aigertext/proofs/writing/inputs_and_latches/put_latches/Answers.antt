use Rattle.std.proofs.Common.{arith}
use Rattle.aigertext.proofs.FormLemmas.{latches_text_at}
use Rattle.base.proofs.PenLemmas.{write_none, write_more}
use Rattle.aigertext.proofs.writing.inputs_and_latches.put_latches.Goals as goal

pub loop-latch-init : goal.loop-latch-init
loop-latch-init g c = record { put = write_none; in_order = omega arith }

pub loop-latch-preserved : goal.loop-latch-preserved
loop-latch-preserved g c = record {
  put =
      write_more c.loop-latch.invariant.put c.put_latch.ensures
      (latches_text_at c.args.form c.loop-latch.variable c.loop-latch.latch-index c.args.latches.now c.latch-item.result (omega arith) c.latch-item.is);
  in_order = omega arith;
}
