use Rattle.std.proofs.Common.{length}
use Rattle.aigerlists.proofs.readiness.order_of_readiness.Given as goal

abbrev pub ghost-take_in_turn : goal.ghost-take_in_turn
ghost-take_in_turn a = record { slots = a.links.now.items; gates = length a.heads.now.items; bound = 0 }
