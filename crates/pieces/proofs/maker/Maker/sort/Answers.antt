use Rattle.std.proofs.Common.{◌≡◌, List, Some, subst, sym, refl}
use Rattle.btor2.specs.declared.item.Item.{Item}
use Rattle.btor2.specs.Items.{sort_width}
use Rattle.pieces.proofs.KeptLemmas.{kept_sort}
use Rattle.pieces.proofs.NodeLemmas.{sound_sort, sort_put}
use Rattle.pieces.proofs.maker.Maker.sort.Goals as goal

pub put-requires : goal.put-requires
put-requires c = record { sound = sound_sort c.args.self.now c.args.width c.requires.least c.requires.most; plain = refl }

pub invariant_of-self : goal.invariant_of-self
invariant_of-self c =
    kept_sort c.self-2.inside.model c.self-2.inside.next c.self-2.inside.sorts c.args.width c.in_ok-id.id c.self-2.invariant
    (subst (λ (l : List Item). sort_width l c.in_ok-id.id ≡ Some c.args.width) (sym c.self-2.view_is) (sort_put c.args.self.now c.put.new.self c.in_ok-id.id c.args.width c.in_ok-id.ensures.line.0 c.in_ok-id.ensures.line.1))

pub returns-clause-sort : goal.returns-clause-sort
returns-clause-sort c = subst (λ (l : List Item). sort_width l c.in_ok-id.id ≡ Some c.args.width) (sym c.self-2.view_is) (sort_put c.args.self.now c.put.new.self c.in_ok-id.id c.args.width c.in_ok-id.ensures.line.0 c.in_ok-id.ensures.line.1)
