use Rattle.base.specs.Literal.{variable}
use Rattle.aigerlists.proofs.PlacesLemmas.{not_yet}
use Rattle.aigerlists.proofs.numbers.Numbers.push_inputs.Goals as goal

pub push-requires-clause-new : goal.push-requires-clause-new
push-requires-clause-new c =
    let new = not_yet variable c.args.self.now c.args.inputs.now c.loop-lit.lit-index c.lit-item.result c.requires.once c.loop-lit-test.true c.lit-item.is in
    rw (c.var.ensures, c.loop-lit.invariant) new
