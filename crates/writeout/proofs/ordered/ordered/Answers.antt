-- An order of the places is one of the lines.
use Rattle.std.proofs.Common.{List, ℕ, sym, subst}
use Rattle.order.specs.Orders.{AreNumbers, IsOrder}
use Rattle.writeout.proofs.OrderLemmas.{rows_are_numbers, line_order}
use Rattle.writeout.proofs.ordered.ordered.Goals as goal

pub order-requires-clause-numbers : goal.order-requires-clause-numbers
order-requires-clause-numbers c = subst AreNumbers (sym c.in-Ok.ensures) (rows_are_numbers c.args.full.now c.know.ensures.model)

pub returns-in-Ok-order-clause-ok : goal.returns-in-Ok-order-clause-ok
returns-in-Ok-order-clause-ok c =
    line_order c.args.full.now c.in-Ok-order.list.items (subst (λ (rows : List (List ℕ)). IsOrder rows c.in-Ok-order.list.items) c.in-Ok.ensures c.in-Ok-order.ensures.ok)
