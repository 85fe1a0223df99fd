use Rattle.aigertext.proofs.PropertyLemmas.{RowsMade}
use Rattle.aigertext.proofs.reading.properties.push_rows.Given as goal

abbrev pub invariant-loop-size : goal.invariant-loop-size
invariant-loop-size l = RowsMade l.sizes l.fn.listed l.initial.rows l.size-index l.rows l.rest
