use Rattle.order.proofs.OrderLemmas.{order_stands, order_within, order_apart, order_length}
use Rattle.order.proofs.laws.places_in_orders.Goals as goal

pub returns-clause-stands : goal.returns-clause-stands
returns-clause-stands c = order_stands

pub returns-clause-within : goal.returns-clause-within
returns-clause-within c = order_within

pub returns-clause-apart : goal.returns-clause-apart
returns-clause-apart c = order_apart

pub returns-clause-length : goal.returns-clause-length
returns-clause-length c = order_length
