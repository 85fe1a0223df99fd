use Rattle.std.proofs.Common.{List, subst, sym}
use Rattle.btor2.specs.declared.item.Item.{Item}
use Rattle.btor2.proofs.ModelLemmas.{node_width-range}
use Rattle.pieces.specs.Nodes.{IsNode}
use Rattle.pieces.proofs.maker.Maker.know.Goals as goal

pub returns-clause-least : goal.returns-clause-least
returns-clause-least c = (node_width-range c.self.inside.model c.args.node.id c.args.node.width c.items-items.ensures.well_formed (subst (λ (l : List Item). IsNode l c.args.node) (sym c.self.view_is) c.requires)).0

pub returns-clause-most : goal.returns-clause-most
returns-clause-most c = (node_width-range c.self.inside.model c.args.node.id c.args.node.width c.items-items.ensures.well_formed (subst (λ (l : List Item). IsNode l c.args.node) (sym c.self.view_is) c.requires)).1
