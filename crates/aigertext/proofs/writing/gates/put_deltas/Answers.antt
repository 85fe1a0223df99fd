use Rattle.std.proofs.Common.{◌≡◌, ◌++◌, length, take, drop, sym, ap, subst, ◌∙◌, length-append, arith}
use Rattle.std.proofs.lemmas.List.{take-append-drop}
use Rattle.aiger.specs.Net.{AreOrderedFrom}
use Rattle.aigertext.specs.declared.forms.Form.TheVariants.{Binary}
use Rattle.aigertext.specs.Binary.{gates_text}
use Rattle.aigertext.proofs.FormLemmas.{ordered_parts}
use Rattle.base.proofs.PenLemmas.{write_more}
use Rattle.aigertext.proofs.PutsLemmas.{gates_text-append}
use Rattle.aigertext.proofs.writing.gates.put_deltas.Goals as goal

pub write_gates-end-requires-clause-ordered : goal.write_gates-end-requires-clause-ordered
write_gates-end-requires-clause-ordered g c =
    let rest = c.loop-rest.rest.now in
    rw c.split_at.ensures.front (ordered_parts c.loop-rest.variable (take c.min.result rest) (drop c.min.result rest) (subst (AreOrderedFrom c.loop-rest.variable) (sym (take-append-drop c.min.result rest)) c.loop-rest.invariant.ordered)).0

pub loop-rest-preserved : goal.loop-rest-preserved
loop-rest-preserved g c =
    let rest = c.loop-rest.rest.now in
    let some = c.split_at.result.0.now in
    let others = c.split_at.result.1.now in
    let whole : some ++ others ≡ rest = rw (c.split_at.ensures.front, c.split_at.ensures.back) (take-append-drop c.min.result rest) in
    record {
      put =
          write_more c.loop-rest.invariant.put (rw (c.split_at-in-loop-rest.ensures.front, c.write_gates-end.ensures.bytes) at c.put.ensures)
          (ap (gates_text Binary c.loop-rest.variable) (sym whole) ∙ gates_text-append Binary c.loop-rest.variable some others);
      few = omega (arith, c.loop-rest.invariant.few, ap length whole, length-append some others);
      ordered = (ordered_parts c.loop-rest.variable some others (subst (AreOrderedFrom c.loop-rest.variable) (sym whole) c.loop-rest.invariant.ordered)).1;
    }
