use Rattle.std.proofs.Common.{[], refl}
use Rattle.btor2.proofs.NextLemmas.{first_by_places}
use Rattle.btor2.proofs.model.Model.first_init_without_next.Goals as goal

pub loop-place-init : goal.loop-place-init
loop-place-init c = first_by_places c.args.self.now c.args.self.now [] 0 refl refl
