use Rattle.lift.specs.Lifted.{bits_of_line}
use Rattle.lift.proofs.PutLemmas.{initial_parts}
use Rattle.lift.proofs.pieces.put_initial.Goals as goal

pub returns : goal.returns
returns g c = rw (initial_parts c.args.named c.args.model.now (bits_of_line c.args.bits.now) c.items-items.ensures.well_formed) c.put_part.ensures
