use Rattle.std.proofs.Common.{◌++◌, ◌∙◌, refl, sym, ap, subst, arith}
use Rattle.std.specs.Io.KnownBytes.{Keeps, prepend_known}
use Rattle.aigertext.specs.InOrder.{text_with}
use Rattle.aigertext.proofs.AnswerLemmas.{fault_read, taken_kept}
use Rattle.aigertext.proofs.InOrderLemmas.{put_together, text_kept, text_all, text_long}
use Rattle.aigertext.proofs.reading.taking.read_onto.Goals as goal

pub returns-in-Ok-clause-taken : goal.returns-in-Ok-clause-taken
returns-in-Ok-clause-taken g c = record {
  text = text_with c.args.front.form c.args.front.counts c.args.before.now c.read_gates.new.target.gates c.read_rest.new.bytes.items;
  is =
      text_all c.args.front.form c.args.front.counts c.args.before.now c.args.circuit.now c.read_gates.new.target c.in_ok-passed.passed c.args.window.now.items c.read_gates.new.window.items
      (g.S.Source.to_come c.args.source.now) (g.S.Source.to_come c.read_gates.new.source) c.requires.fresh c.in_ok-passed.ensures.puts
      c.read_rest.new.bytes.items (g.S.Source.to_come c.read_rest.new.source) c.in_ok-read_rest.ensures.bytes c.in_ok-read_rest.ensures.end;
  reads =
      let read = rw c.as_slice.ensures.value at (c.in-Ok.ensures c.args.before.now c.requires.front) in
      (read.0, λ wanted. read.1);
}

pub returns-in-Err-clause-taken : goal.returns-in-Err-clause-taken
returns-in-Err-clause-taken g c = record {
  text = text_with c.args.front.form c.args.front.counts c.args.before.now c.read_gates.new.target.gates c.read_rest.new.bytes.items;
  is =
      text_all c.args.front.form c.args.front.counts c.args.before.now c.args.circuit.now c.read_gates.new.target c.in_ok-passed.passed c.args.window.now.items c.read_gates.new.window.items
      (g.S.Source.to_come c.args.source.now) (g.S.Source.to_come c.read_gates.new.source) c.requires.fresh c.in_ok-passed.ensures.puts
      c.read_rest.new.bytes.items (g.S.Source.to_come c.read_rest.new.source) c.in_ok-read_rest.ensures.bytes c.in_ok-read_rest.ensures.end;
  reads =
      fault_read _ c.args.wanted c.in_ok-total.total c.in-Err.stop c.fault.result
      (text_long c.args.front.form c.args.front.counts c.args.before.now c.args.circuit.now c.read_gates.new.target c.in_ok-passed.passed c.args.window.now.items c.read_gates.new.window.items
      (g.S.Source.to_come c.args.source.now) (g.S.Source.to_come c.read_gates.new.source) c.requires.fresh c.in_ok-passed.ensures.puts
      c.in_ok-total.total c.read_rest.new.bytes.items (omega (arith, rw c.in_ok-total.ensures.ok_part at c.total-total.ensures, c.len.ensures)))
      c.fault.ensures (rw c.as_slice.ensures.value at (c.in-Err.ensures c.args.before.now c.requires.front));
}

pub returns-then-is_out_of_turn-clause-taken : goal.returns-then-is_out_of_turn-clause-taken
returns-then-is_out_of_turn-clause-taken g c =
    let f = c.args.front in
    let k0 = g.S.Source.to_come c.args.source.now in
    let k1 = g.S.Source.to_come c.read_gates.new.source in
    let window = c.read_gates.new.window.items in
    let own = put_together f.form f.counts c.args.before.now _ c.read_gates.new.target.gates c.gates.result.now window (c.if-is_out_of_turn.ensures.ascii refl) refl c.gates.ensures.items ∙ ap (λ t. c.args.before.now ++ (t ++ window)) (sym c.in-Some.ensures.own) in
    let kept =
    subst (λ t. Keeps (prepend_known (c.args.before.now ++ c.args.window.now.items) k0) (prepend_known t k1)) own
    (text_kept f.form f.counts c.args.before.now c.args.circuit.now c.read_gates.new.target c.in_ok-passed.passed c.args.window.now.items window k0 k1 c.requires.fresh c.in_ok-passed.ensures.puts) in
    taken_kept _ _ c.args.wanted c.in_ok-taken.taken kept c.in_ok-taken.ensures.taken
