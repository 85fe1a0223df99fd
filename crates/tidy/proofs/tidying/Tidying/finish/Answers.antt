use Rattle.std.proofs.Common.{refl}
use Rattle.tidy.specs.Tidied.{tidied}
use Rattle.tidy.specs.Steps.{tidying_front}
use Rattle.tidy.proofs.WholeLemmas.{all_put}
use Rattle.tidy.proofs.tidying.Tidying.finish.Goals as goal

pub returns : goal.returns
returns g c start pick text h = c.finish.ensures start (tidying_front pick).pen (tidied pick text) refl refl (all_put pick h (rw c.last_written.ensures at c.put.ensures))
