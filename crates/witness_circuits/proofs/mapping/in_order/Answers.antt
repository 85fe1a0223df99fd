use Rattle.std.proofs.Common.{◌∷◌, ◌++◌, [], ℕ, List, Option, ap₂, sym, ◌∙◌, arith}
use Rattle.std.proofs.lemmas.List.FromFn.{map-range_with_len_more}
use Rattle.witness_circuits.specs.Mapping.{in_place}
use Rattle.witness_circuits.proofs.mapping.in_order.Goals as goal

pub loop-place-preserved : goal.loop-place-preserved
loop-place-preserved c =
    c.in-Ok.ensures.items
    ∙ (ap₂ (λ (xs : List (Option ℕ)) (x : Option ℕ). xs ++ x ∷ []) c.loop-place.invariant c.in_place.ensures
    ∙ sym (map-range_with_len_more (in_place c.args.first c.args.count) 0 c.loop-place.place c.loop-place.place (omega arith)))
