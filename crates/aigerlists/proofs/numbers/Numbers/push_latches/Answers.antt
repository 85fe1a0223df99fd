use Rattle.aigerlists.specs.Loose.{latch_variable}
use Rattle.aigerlists.proofs.PlacesLemmas.{not_yet}
use Rattle.aigerlists.proofs.numbers.Numbers.push_latches.Goals as goal

pub push-requires-clause-new : goal.push-requires-clause-new
push-requires-clause-new c =
    let new = not_yet latch_variable c.args.self.now c.args.lines.now c.loop-line.line-index c.line-item.result c.requires.once c.loop-line-test.true c.line-item.is in
    rw (c.var.ensures, c.loop-line.invariant) new
