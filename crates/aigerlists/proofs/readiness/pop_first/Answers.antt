use Rattle.std.specs.BinaryHeap.{heap_items}
use Rattle.aigerlists.proofs.ReadinessLemmas.{first_popped}
use Rattle.aigerlists.proofs.readiness.pop_first.Goals as goal

pub returns-in-Some-clause-first : goal.returns-in-Some-clause-first
returns-in-Some-clause-first c = first_popped c.in-Some.field-0 (heap_items c.args.others.now) (heap_items c.pop.new.self) c.requires c.in-Some.ensures.permutation c.in-Some.ensures.heap_order
