use Rattle.std.proofs.Common.{◌∙◌, ap, length, sym, inl, inr, arith}
use Rattle.aigertext.specs.InOrder.{uses_of}
use Rattle.aigertext.proofs.InOrderLemmas.{reads_left, gate_answer}
use Rattle.aigertext.proofs.reading.finishing.read_left.Goals as goal

pub returns-then-gates : goal.returns-then-gates
returns-then-gates c = λ before front.
    let own = c.own_numbers.ensures in
    reads_left c.args.front.form c.args.front.counts (uses_of c.args.front) before front c.args.circuit.now c.push_gates-names.new.self _ c.args.window.now c.push_gates-names.result.now c.requires.bare c.push_gates-names.ensures.puts c.gates-2.ensures.valid
    own.valid own.numbered own.many own.numbering c.finish.new.circuit c.finish.result (ap length (sym c.gates-2.ensures.items) ∙ c.if-gates.true) c.finish.ensures

pub returns : goal.returns
returns c = λ before front.
    elim c.without_gate.ensures [
      | inl full ↦ inl full
      | inr stops ↦
          inr (gate_answer c.args.front.form c.args.front.counts (uses_of c.args.front) before front c.args.circuit.now c.push_gates-names.new.self _ c.args.window.now c.push_gates-names.result.now c.requires.bare c.push_gates-names.ensures.puts c.gates-2.ensures.valid
          c.without_gate.result _ c.requires.all (omega (arith, c.push_gates-names.ensures.few, c.requires.few, ap length c.gates.ensures.items)) (λ is. c.if-gates.false (ap length c.gates-2.ensures.items ∙ is)) (omega arith) stops)
    ]
