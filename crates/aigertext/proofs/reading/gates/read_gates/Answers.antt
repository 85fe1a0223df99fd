use Rattle.std.proofs.Common.{◌-◌, length, ◌∙◌, arith}
use Rattle.aigertext.proofs.PutsLemmas.{puts_then, puts_held, puts_kept, puts_dropped}
use Rattle.aigertext.proofs.reading.gates.read_gates.Goals as goal

pub returns-then-gate_count-count-clause-puts : goal.returns-then-gate_count-count-clause-puts
returns-then-gate_count-count-clause-puts g c =
    let puts = g.T.TakesGates.puts c.args.form c.args.greatest in
    puts_then puts (c.in_pieces.ensures c.args.form c.args.greatest) _ _ _ _ _ _ _ _ _ (rw c.in_ok-passed.ensures.ok_part at c.checked_add-sum.ensures).1 c.loop-passed.invariant.puts
    (puts_held puts c.loop-passed.target c.push_gates-behind.new.self _ c.loop-passed.window.items c.remove_front.new.bytes.items (g.S.Source.to_come c.loop-passed.source) (puts_dropped puts c.loop-passed.target c.push_gates-behind.new.self (c.len.result - length c.push_gates-behind.result.now) c.loop-passed.window.items c.push_gates-behind.result.now c.remove_front.new.bytes.items (rw c.as_slice.ensures.value at c.push_gates-behind.ensures.puts) (omega (arith, c.len.ensures, c.loop-passed.window.ok.0)) c.remove_front.ensures))

pub returns-then-not-branch-clause-puts : goal.returns-then-not-branch-clause-puts
returns-then-not-branch-clause-puts g c =
    let puts = g.T.TakesGates.puts c.args.form c.args.greatest in
    puts_kept puts _ _ _ _ _ _
    (puts_then puts (c.in_pieces.ensures c.args.form c.args.greatest) _ _ _ _ _ _ _ _ _ (rw c.in_ok-passed.ensures.ok_part at c.checked_add-sum.ensures).1 c.loop-passed.invariant.puts
    (puts_held puts c.loop-passed.target c.push_gates-behind.new.self _ c.loop-passed.window.items c.remove_front.new.bytes.items (g.S.Source.to_come c.loop-passed.source) (puts_dropped puts c.loop-passed.target c.push_gates-behind.new.self (c.len.result - length c.push_gates-behind.result.now) c.loop-passed.window.items c.push_gates-behind.result.now c.remove_front.new.bytes.items (rw c.as_slice.ensures.value at c.push_gates-behind.ensures.puts) (omega (arith, c.len.ensures, c.loop-passed.window.ok.0)) c.remove_front.ensures)))
    c.in_ok-read_piece.ensures.bytes

pub loop-passed-preserved : goal.loop-passed-preserved
loop-passed-preserved g c =
    let puts = g.T.TakesGates.puts c.args.form c.args.greatest in
    record {
      puts =
          puts_kept puts _ _ _ _ _ _
          (puts_then puts (c.in_pieces.ensures c.args.form c.args.greatest) _ _ _ _ _ _ _ _ _ (rw c.in_ok-passed.ensures.ok_part at c.checked_add-sum.ensures).1 c.loop-passed.invariant.puts
          (puts_held puts c.loop-passed.target c.push_gates-behind.new.self _ c.loop-passed.window.items c.remove_front.new.bytes.items (g.S.Source.to_come c.loop-passed.source) (puts_dropped puts c.loop-passed.target c.push_gates-behind.new.self (c.len.result - length c.push_gates-behind.result.now) c.loop-passed.window.items c.push_gates-behind.result.now c.remove_front.new.bytes.items (rw c.as_slice.ensures.value at c.push_gates-behind.ensures.puts) (omega (arith, c.len.ensures, c.loop-passed.window.ok.0)) c.remove_front.ensures)))
          c.in_ok-read_piece.ensures.bytes;
      few = λ small. omega (arith, c.loop-passed.invariant.few small, c.push_gates-behind.ensures.few, c.saturating_sub-left.ensures, c.gate_count.ensures);
      counted = c.in_ok-read_piece.ensures.counted ∙ c.loop-passed.invariant.counted;
    }
