use Rattle.std.proofs.Common.{rules, arith}
use Rattle.aigertext.specs.InOrder.{IsPutOnLists}
use Rattle.aigertext.proofs.PutsLemmas.{lists_pieces, puts_more, one_line, one_line_more}
use Rattle.aigertext.proofs.reading.gates.LooseTakesGates.push_gates.Goals as goal

pub loop-index-preserved : goal.loop-index-preserved
loop-index-preserved c =
    let added = c.push_line.ensures.added (search rules) in
    record {
      puts =
          puts_more (IsPutOnLists c.args.top) (lists_pieces c.args.top) c.args.self.now c.loop-index.self c.push_line.new.lists _ c.args.text.now c.loop-index.rest.now _ c.in-Some.behind.now c.loop-index.invariant.puts c.in-Some.ensures
          (one_line c.args.top c.loop-index.self c.push_line.new.lists _ added);
      few = omega (arith, one_line_more c.loop-index.self c.push_line.new.lists _ added.0, c.loop-index.invariant.few);
    }
