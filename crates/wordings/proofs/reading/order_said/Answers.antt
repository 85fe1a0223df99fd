use Rattle.std.proofs.Common.{map, rules}
use Rattle.wordings.specs.Orders.{SaysOrder}
use Rattle.wordings.specs.Values.{said}
use Rattle.wordings.proofs.SayLemmas.{by_command}
use Rattle.wordings.proofs.reading.order_said.Goals as goal

pub returns-in-Some : goal.returns-in-Some
returns-in-Some g c = by_command SaysOrder (map g.S.AsStr.text c.args.words.now) c.in-Some.verb (map said c.in-Some.parts.items) c.order_of.result (search rules) (rw (← c.as_slice.ensures.value) c.order_of.ensures)
