use Rattle.std.proofs.Common.{◌∷◌, ◌++◌, [], ℕ, List, ap₂, sym, ◌∙◌}
use Rattle.witness_circuits.proofs.MakerLemmas.{beside-next}
use Rattle.witness_circuits.proofs.copies.beside_literals.Goals as goal

pub loop-j-preserved : goal.loop-j-preserved
loop-j-preserved c =
    c.in-Ok.ensures.items
    ∙ (ap₂ (λ (xs : List ℕ) (x : ℕ). xs ++ x ∷ []) c.loop-j.invariant c.beside_literal.ensures
    ∙ sym (beside-next c.args.table.now c.args.shared.now c.args.own.now c.loop-j.j c.index-shared-j.result c.index-own-j.result c.loop-j-test.true c.requires.many c.index-shared-j.is c.index-own-j.is))
