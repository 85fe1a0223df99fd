use Rattle.std.proofs.Common.{◌≡◌, rules, arith}
use Rattle.aiger.specs.Circuit.{with_gate}
use Rattle.aigertext.specs.InOrder.{ArePutGates}
use Rattle.aigertext.proofs.PutsLemmas.{circuit_pieces, puts_more, one_put, one_variable, one_gate}
use Rattle.aigertext.proofs.reading.gates.CircuitTakesGates.push_gates.Goals as goal

pub loop-index-preserved : goal.loop-index-preserved
loop-index-preserved c =
    let pushed : c.push_gate.new.self ≡ with_gate c.loop-index.self c.in-Some.gate.rhs0 c.in-Some.gate.rhs1 = search rules in
    record {
      puts =
          puts_more (ArePutGates c.args.form) (circuit_pieces c.args.form) c.args.self.now c.loop-index.self c.push_gate.new.self _ c.args.text.now c.loop-index.rest.now _ c.in-Some.behind.now c.loop-index.invariant.puts c.in-Some.ensures
          (one_put c.args.form c.loop-index.self c.push_gate.new.self c.loop-index.own c.in-Some.gate c.loop-index.invariant.own pushed);
      own = omega (arith, one_variable c.loop-index.self c.push_gate.new.self c.in-Some.gate pushed);
      few = omega (arith, one_gate c.loop-index.self c.push_gate.new.self c.in-Some.gate pushed, c.loop-index.invariant.few);
    }
