use Rattle.std.proofs.Common.{ℕ, Some, sym, ap, ◌∙◌}
use Rattle.btor2.proofs.LookUps.{position-in_place}
use Rattle.btor2.proofs.model.Model.searched.Goals as goal

pub returns-then-is_in_place : goal.returns-then-is_in_place
returns-then-is_in_place c =
    let placed = position-in_place c.self.inside.items.items c.args.id c.self.invariant.well_formed (rw c.self.view_is (sym c.is_in_place.ensures ∙ c.if-is_in_place.true)) in
    ap (λ (k : ℕ). Some k) c.place_by_number.ensures ∙ rw (← c.self.view_is) (sym placed)
