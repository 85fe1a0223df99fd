use Rattle.std.proofs.Common.{◌≡◌, ◌+◌, ◌<◌, List, length, nat_eq, sym, ap, subst, ◌∙◌, arith}
use Rattle.std.specs.HashMap.{get}
use Rattle.std.proofs.lemmas.List.{length-map}
use Rattle.btor2.specs.declared.item.Item.{Item}
use Rattle.wide.specs.Lines.{item_of}
use Rattle.cells.specs.Kept.{IsSound}
use Rattle.cells.proofs.KeptLemmas.{kept_after, refused_for_memory}
use Rattle.cells.proofs.maker.ListMaker.put.Goals as goal

pub wanting-requires : goal.wanting-requires
wanting-requires c =
    let many : length c.lines.result.now ≡ length c.self.inside.model = sym (length-map c.lines.result.now item_of) ∙ ap length c.lines.ensures.items in
    let few : length c.self.inside.model < 1048576 = omega (arith, many, c.if-lines-ge-MOST_ITEMS.false) in
    let is : c.next-id.result ≡ length c.self.inside.model + 1 = omega (arith, c.next-id.ensures.id, ap length c.self.view_is) in
    refused_for_memory c.self.inside.model c.next-id.result c.args.symbol c.args.body c.in-Err.fault c.self.invariant.numbered few is (subst (λ (l : List Item). IsSound l c.args.body) (sym c.self.view_is) c.requires.sound) c.in-Err.ensures.answer

pub invariant_of-self : goal.invariant_of-self
invariant_of-self c =
    let is : c.next-id.result ≡ length c.self.inside.model + 1 = omega (arith, c.next-id.ensures.id, ap length c.self.view_is) in
    let kept = kept_after c.self.inside.model c.push.new.self c.next-id.result c.args.symbol c.args.body (get nat_eq c.self.inside.sorts) c.push.result c.self.invariant.numbered c.self.invariant.sorts is c.push.ensures.ok c.push.ensures.err in
    record { numbered = kept.0; sorts = kept.1 }
