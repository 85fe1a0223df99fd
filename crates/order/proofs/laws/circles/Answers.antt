use Rattle.order.proofs.OrderLemmas.{no_circle, circle_within}
use Rattle.order.proofs.laws.circles.Goals as goal

pub returns-clause-none : goal.returns-clause-none
returns-clause-none c = no_circle

pub returns-clause-within : goal.returns-clause-within
returns-clause-within c = circle_within
