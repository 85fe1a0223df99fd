use Rattle.std.proofs.Common.{[], ap, sym, ◌∙◌}
use Rattle.aigerlists.specs.Renumbering.{renumbered}
use Rattle.aigerlists.proofs.OrderLemmas.{same_order, no_cycle}
use Rattle.aigerlists.proofs.CompleteLemmas.{has_renumbering, numbered_or_cyclic, is_circuit}
use Rattle.aigerlists.proofs.laws.one_renumbering.Goals as goal

pub returns-clause-unique : goal.returns-clause-unique
returns-clause-unique x l c d one two =
    one.circuit ∙ (ap (renumbered l) (same_order l [] one.order two.order one.is_order.in_turn two.is_order.in_turn one.is_order.all two.is_order.all) ∙ sym two.circuit)

pub returns-clause-no_cycle : goal.returns-clause-no_cycle
returns-clause-no_cycle x l c j valid one h = no_cycle l one.order j valid one.is_order.in_turn (one.is_order.all j h)

pub returns-clause-exists : goal.returns-clause-exists
returns-clause-exists x = has_renumbering

pub returns-clause-circuit : goal.returns-clause-circuit
returns-clause-circuit x = is_circuit

pub returns-clause-either : goal.returns-clause-either
returns-clause-either x = numbered_or_cyclic
