use Rattle.aigerlists.proofs.InOrderLemmas.{by_numbering}
use Rattle.aigerlists.proofs.loose.Loose.number_by_places.Goals as goal

pub returns-in-Ok : goal.returns-in-Ok
returns-in-Ok c = (c.in-Ok.ensures.answers, by_numbering _ _ _ _ c.in-Ok.ensures.numbering c.of.ensures)
