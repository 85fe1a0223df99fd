use Rattle.std.proofs.Common.{◌+◌, ◌*◌, ◌∷◌, ◌++◌, [], ℕ, List, ap₂, sym, ◌∙◌, arith}
use Rattle.std.proofs.lemmas.List.FromFn.{map-range_with_len_more}
use Rattle.witness_circuits.proofs.copies.variable_literals.Goals as goal

pub loop-k-preserved : goal.loop-k-preserved
loop-k-preserved c =
    c.in-Ok.ensures.items
    ∙ (ap₂ (λ (xs : List ℕ) (x : ℕ). xs ++ x ∷ []) c.loop-k.invariant c.variable_literal.ensures
    ∙ sym (map-range_with_len_more (λ k. 2 * k) 1 c.loop-k.k (c.loop-k.k + 1) (omega arith)))
