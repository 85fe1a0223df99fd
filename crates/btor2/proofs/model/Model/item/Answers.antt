use Rattle.std.proofs.Common.{◌≡◌, List, slice_get, sym, ap, ◌∙◌}
use Rattle.btor2.specs.declared.item.Item.{Item}
use Rattle.btor2.proofs.LookUps as ids
use Rattle.btor2.proofs.model.Model.item.Goals as goal

pub returns-in-Some-clause-value : goal.returns-in-Some-clause-value
returns-in-Some-clause-value c =
    let items : c.as_slice.result.now ≡ c.args.self.now = c.as_slice.ensures.value ∙ c.self.view_is in
    c.item_at.ensures ∙ ap (λ (l : List Item). slice_get l c.in-Some.place) items ∙ ids.item_at c.args.self.now c.args.id c.in-Some.place c.in-Some.ensures

pub returns-in-None-clause-value : goal.returns-in-None-clause-value
returns-in-None-clause-value c = sym (ids.no_item c.args.self.now c.args.id (sym c.in-None.ensures))
