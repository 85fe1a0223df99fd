use Rattle.std.proofs.Common.{map, rules}
use Rattle.wordings.specs.Orders.{SaysList}
use Rattle.wordings.specs.Values.{said}
use Rattle.wordings.proofs.SayLemmas.{by_command}
use Rattle.wordings.proofs.reading.list_said.Goals as goal

pub returns-in-Some : goal.returns-in-Some
returns-in-Some g c = by_command SaysList (map g.S.AsStr.text c.args.words.now) c.in-Some.verb (map said c.in-Some.parts.items) c.list_of.result (search rules) (rw (← c.as_slice.ensures.value) c.list_of.ensures)
