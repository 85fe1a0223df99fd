use Rattle.std.proofs.Common.{◌∷◌, [], sym, ◌∙◌, append_assoc}
use Rattle.tidy.proofs.TakenLemmas.{takes_then, taken_more, taken_all}
use Rattle.tidy.proofs.tidying.Tidying.take_piece.Goals as goal

pub loop-line-preserved : goal.loop-line-preserved
loop-line-preserved g c = taken_more c.loop-line.invariant (takes_then c.take_part.ensures c.take_end.ensures) (c.in-Some.ensures.0 ∙ sym (append_assoc c.in-Some.line.now (10 ∷ []) c.in-Some.behind.now))

pub returns : goal.returns
returns g c = taken_all c.loop-line.invariant c.take_part-2.ensures
