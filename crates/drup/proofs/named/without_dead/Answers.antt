use Rattle.drup.proofs.NamedLemmas.{swept_none}
use Rattle.drup.proofs.named.without_dead.Goals as goal

pub loop-k-init : goal.loop-k-init
loop-k-init c = swept_none c.args.named.now c.from-swept.result c.from-swept.ensures.none c.from-swept.ensures.named c.from-swept.ensures.dead
