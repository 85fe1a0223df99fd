use Rattle.std.proofs.Common.{arith}
use Rattle.std.proofs.lemmas.Bool.{ltb-true}
use Rattle.std.specs.BinaryHeap.{heap_items}
use Rattle.aigerlists.proofs.ReadinessLemmas.{times_before}
use Rattle.aigerlists.proofs.readiness.is_before.Goals as goal

pub returns-in-Some : goal.returns-in-Some
returns-in-Some c t i low =
    times_before i c.args.gate c.in-Some.field-0.now (heap_items c.args.others.now) low (omega (arith, ltb-true c.args.gate c.in-Some.field-0.now.0 t)) (c.in-Some.ensures.greatest c.requires)
