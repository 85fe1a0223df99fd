use Rattle.std.proofs.Common.{arith}
use Rattle.aigertext.specs.declared.forms.Form.TheVariants.{Ascii}
use Rattle.aigertext.proofs.FormLemmas.{gates_text_at}
use Rattle.base.proofs.PenLemmas.{write_more, writes_line}
use Rattle.aigertext.proofs.writing.gates.put_lines.Goals as goal

pub loop-gate-preserved : goal.loop-gate-preserved
loop-gate-preserved g c =
    let line = rw (c.before-in-loop-gate-2.ensures.digits, c.before-in-loop-gate.ensures.digits, c.last.ensures.line, c.number.ensures, c.number-in-loop-gate.ensures) at (writes_line {p = c.loop-gate.pen} c.put_line.ensures) in
    record {
      put = write_more c.loop-gate.invariant.put line (gates_text_at Ascii c.loop-gate.variable c.loop-gate.gate-index c.args.gates.now c.gate-item.result (omega arith) c.gate-item.is);
      in_order = omega arith;
    }
