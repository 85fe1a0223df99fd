use Rattle.writeout.proofs.PlaceLemmas.{place_at}
use Rattle.writeout.proofs.operands.node.Goals as goal

pub returns-in-Some : goal.returns-in-Some
returns-in-Some c there =
    place_at c.args.full.now c.args.id c.in-Some.place c.args.tables.now.nodes.items c.index.result.now c.know.ensures.model there c.in-Some.ensures.found c.in-Some.ensures.within c.requires c.index.ensures
