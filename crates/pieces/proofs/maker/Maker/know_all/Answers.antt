use Rattle.std.proofs.Common.{List, subst, sym}
use Rattle.btor2.specs.declared.item.Item.{Item}
use Rattle.pieces.specs.Nodes.{AreNodes}
use Rattle.pieces.proofs.ListLemmas.{nodes_have_bits}
use Rattle.pieces.proofs.maker.Maker.know_all.Goals as goal

pub returns : goal.returns
returns c = nodes_have_bits c.self.inside.model c.args.nodes.now c.items-items.ensures.well_formed (subst (λ (l : List Item). AreNodes l c.args.nodes.now) (sym c.self.view_is) c.requires)
