use Rattle.std.proofs.Common.{◌≡◌, ◌+◌, List, None, length, sym, ap, subst, ◌∙◌, arith}
use Rattle.std.proofs.lemmas.List.{length-map}
use Rattle.btor2.specs.declared.item.Item.{Item}
use Rattle.btor2.specs.Items.{find_item}
use Rattle.wide.specs.Lines.{item_of}
use Rattle.cells.proofs.PlaceLemmas.{free_behind}
use Rattle.cells.proofs.maker.ListMaker.next.Goals as goal

pub returns-clause-fresh : goal.returns-clause-fresh
returns-clause-fresh c =
    let many : length c.lines.result.now ≡ length c.self.inside.model = sym (length-map c.lines.result.now item_of) ∙ ap length c.lines.ensures.items in
    subst (λ (l : List Item). find_item l (length c.lines.result.now + 1) ≡ None) c.self.view_is (free_behind c.self.inside.model (length c.lines.result.now + 1) c.self.invariant.numbered (omega (arith, many)))
