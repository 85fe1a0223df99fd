use Rattle.std.proofs.Common.{◌≡◌, ◌*◌, ◌^◌, List, Some, subst, sym}
use Rattle.btor2.specs.declared.item.Item.{Item}
use Rattle.btor2.specs.Items.{node_width}
use Rattle.cells.proofs.KeptLemmas.{node_range}
use Rattle.cells.proofs.BitLemmas.{some_element}
use Rattle.cells.proofs.maker.ListMaker.know_array.Goals as goal

pub returns-clause-some : goal.returns-clause-some
returns-clause-some c =
    let here = subst (λ (l : List Item). node_width l c.args.array ≡ Some (2 ^ c.args.bits * c.args.element)) (sym c.model.ensures.model) c.requires in
    some_element c.args.bits c.args.element (node_range c.model.result.now c.args.array (2 ^ c.args.bits * c.args.element) c.lines-lines.ensures.well_formed here).0

pub returns-clause-most : goal.returns-clause-most
returns-clause-most c =
    let here = subst (λ (l : List Item). node_width l c.args.array ≡ Some (2 ^ c.args.bits * c.args.element)) (sym c.model.ensures.model) c.requires in
    (node_range c.model.result.now c.args.array (2 ^ c.args.bits * c.args.element) c.lines-lines.ensures.well_formed here).1
