use Rattle.std.proofs.Common.{◌≡◌, List, Some, subst, sym}
use Rattle.btor2.specs.declared.item.Item.{Item}
use Rattle.btor2.specs.Items.{node_width}
use Rattle.cells.proofs.KeptLemmas.{node_range}
use Rattle.cells.proofs.maker.ListMaker.know_width.Goals as goal

pub returns-clause-least : goal.returns-clause-least
returns-clause-least c = (node_range c.self.inside.model c.args.a c.args.width c.lines-lines.ensures.well_formed (subst (λ (l : List Item). node_width l c.args.a ≡ Some c.args.width) (sym c.self.view_is) c.requires)).0

pub returns-clause-most : goal.returns-clause-most
returns-clause-most c = (node_range c.self.inside.model c.args.a c.args.width c.lines-lines.ensures.well_formed (subst (λ (l : List Item). node_width l c.args.a ≡ Some c.args.width) (sym c.self.view_is) c.requires)).1
