use Rattle.std.proofs.Common.{◌≡◌, ℕ, ◌++◌, [], List, map, slice_index_or, ap, sym, ◌∙◌}
use Rattle.std.proofs.lemmas.Grind.{get_or_default_zero}
use Rattle.aigerlists.specs.declared.loose.GateLine.{GateLine}
use Rattle.aigerlists.specs.Loose.{gate_variable}
use Rattle.aigerlists.specs.Numbering.{line_in, gate_name_at}
use Rattle.aigerlists.specs.Renumbering.{new_literal, ordered_gate, new_gate}
use Rattle.aigerlists.proofs.PlacesLemmas.{not_yet, line_read, gate_in_turn, mapped_more}
use Rattle.aigerlists.proofs.renumbering.gates_in_order.Goals as goal

pub push-requires-in-loop-gate-clause-new : goal.push-requires-in-loop-gate-clause-new
push-requires-in-loop-gate-clause-new c =
    let g : ℕ = slice_index_or c.args.order.now c.loop-gate.gate-index 0 in
    let new = not_yet (gate_name_at c.args.lines.now) c.args.numbers.now c.args.order.now c.loop-gate.gate-index g c.requires.once c.loop-gate-test.true (sym (get_or_default_zero c.args.order.now c.loop-gate.gate-index g c.loop-gate-test.true)) in
    let line = c.index-lines-gate.is ∙ line_read c.args.lines.now g c.index-lines-gate.result (c.requires.within c.loop-gate.gate-index 0 c.loop-gate-test.true) in
    let name : c.var.result ≡ gate_name_at c.args.lines.now g = c.var.ensures ∙ ap gate_variable line in
    rw (name, c.loop-gate.invariant.numbers) new

pub loop-gate-preserved : goal.loop-gate-preserved
loop-gate-preserved c =
    let lines : List GateLine = c.args.lines.now in
    let order : List ℕ = c.args.order.now in
    let k : ℕ = c.loop-gate.gate-index in
    let g : ℕ = slice_index_or order k 0 in
    let at : g ≡ slice_index_or order k g = sym (get_or_default_zero order k g c.loop-gate-test.true) in
    let line = c.index-lines-gate.is ∙ line_read lines g c.index-lines-gate.result (c.requires.within k 0 c.loop-gate-test.true) in
    let made : c.ordered.result ≡ new_gate c.loop-gate.numbers (line_in lines g) =
    c.ordered.ensures ∙ ap (λ (a : ℕ). ordered_gate a c.literal-in-loop-gate.result) c.literal.ensures ∙ ap (ordered_gate (new_literal c.loop-gate.numbers c.index-lines-gate.result.rhs0)) c.literal-in-loop-gate.ensures
    ∙ ap (new_gate c.loop-gate.numbers) line in
    record {
      numbers = mapped_more (gate_name_at lines) c.args.numbers.now c.loop-gate.numbers c.push-in-loop-gate.new.self order k g c.var.result c.loop-gate.invariant.numbers c.in_ok-push-2.ensures (c.var.ensures ∙ ap gate_variable line) c.loop-gate-test.true at;
      gates = mapped_more (λ (j : ℕ). new_gate (c.args.numbers.now ++ map (gate_name_at lines) order) (line_in lines j)) [] c.loop-gate.gates.items c.push.new.self.items order k g c.ordered.result c.loop-gate.invariant.gates c.in_ok-push.ensures.items
          (made ∙ ap (λ (ns : List ℕ). new_gate ns (line_in lines g)) c.loop-gate.invariant.numbers ∙ gate_in_turn c.args.numbers.now lines order k g c.requires.known c.loop-gate-test.true at) c.loop-gate-test.true at;
    }
