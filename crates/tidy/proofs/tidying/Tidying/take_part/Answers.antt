use Rattle.std.proofs.Common.{◌≡◌, ◌++◌, take, sym, take-append-drop}
use Rattle.tidy.proofs.RunLemmas.{rest_is_line}
use Rattle.tidy.proofs.TakenLemmas.{taken_more}
use Rattle.tidy.proofs.tidying.Tidying.take_part.Goals as goal

pub loop-rest-preserved : goal.loop-rest-preserved
loop-rest-preserved g c =
    let count = c.take_some-count.result in
    let parts : c.loop-rest.rest.now ≡ take count c.loop-rest.rest.now ++ c.split_at.result.1.now = rw c.split_at.ensures.back (sym (take-append-drop count c.loop-rest.rest.now)) in
    record {
      taken = taken_more c.loop-rest.invariant.taken c.take_some-count.ensures.takes parts;
      is_line = rw c.split_at.ensures.back (rest_is_line count _ c.loop-rest.invariant.is_line);
    }
