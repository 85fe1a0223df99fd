use Rattle.std.proofs.Common.{map, rules}
use Rattle.wordings.specs.Orders.{SaysOf}
use Rattle.wordings.specs.Values.{said}
use Rattle.wordings.proofs.SayLemmas.{by_command}
use Rattle.wordings.proofs.reading.request_said.Goals as goal

pub returns-in-Some : goal.returns-in-Some
returns-in-Some g c = by_command SaysOf (map g.S.AsStr.text c.args.words.now) c.in-Some.verb (map said c.in-Some.parts.items) c.request_of.result (search rules) (rw (← c.as_slice.ensures.value) c.request_of.ensures)
