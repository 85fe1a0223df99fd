use Rattle.std.proofs.Common.{◌<◌, List, length, subst, sym}
use Rattle.btor2.specs.declared.item.Item.{Item}
use Rattle.pieces.specs.Kept.{IsSound}
use Rattle.pieces.proofs.KeptLemmas.{kept_pushed, refused_for_memory}
use Rattle.pieces.proofs.maker.Maker.tell.Goals as goal

pub invariant_of-self : goal.invariant_of-self
invariant_of-self c = kept_pushed c.self.inside.model c.push.new.self c.self.inside.next c.self.inside.sorts c.args.symbol c.args.body c.self.invariant c.in-Ok.ensures.ok

pub wanting-requires : goal.wanting-requires
wanting-requires c =
    refused_for_memory c.self.inside.model c.self.inside.next c.self.inside.sorts c.args.symbol c.args.body _ c.self.invariant (subst (λ (l : List Item). length l < 1048576) c.items.ensures.items c.if-items-ge-MOST_ITEMS.false)
    (subst (λ (l : List Item). IsSound l c.args.body) (sym c.self.view_is) c.requires.sound) c.in-Err.ensures.answer
