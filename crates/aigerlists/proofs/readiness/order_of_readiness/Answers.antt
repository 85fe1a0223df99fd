use Rattle.aigerlists.proofs.ReadinessLemmas.{underway_begins}
use Rattle.aigerlists.proofs.readiness.order_of_readiness.Goals as goal

pub take_in_turn-requires : goal.take_in_turn-requires
take_in_turn-requires c = underway_begins c.args.slots.items c.args.gates _ _ c.requires (c.in_ok-heads.ensures.items_if_clones_equal (λ y same. same)) c.in_ok-order.ensures.items
