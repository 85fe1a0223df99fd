-- The state depends on its negation, and this on the state; one that begins with an input depends on it alone.
use Rattle.std.proofs.Common.{ℕ, List, [], ◌∷◌, refl, sym, subst, arith}
use Rattle.std.specs.Prelude.{Contains}
use Rattle.writeout.specs.Needs.{depends_at, IsDependence}
use Rattle.writeout.specs.Worked.{begun}
use Rattle.writeout.proofs.OrderLemmas.{one_contained, none_contained}
use Rattle.writeout.proofs.laws.worked_circles.Goals as goal

pub returns-clause-state : goal.returns-clause-state
returns-clause-state c = (3 ∷ [], ((0, omega arith, refl), (0, omega arith, refl)))

pub returns-clause-negation : goal.returns-clause-negation
returns-clause-negation c = (2 ∷ [], ((0, omega arith, refl), (0, omega arith, refl)))

ends : (next m : ℕ) → Contains (depends_at begun 2) next → Contains (depends_at begun next) m → ⊥
ends next m c d = none_contained m (subst (λ (n : ℕ). Contains (depends_at begun n) m) (sym (one_contained 3 next c)) d)

none : (between : List ℕ) → IsDependence begun 2 between 2 → ⊥
none [] p = omega (arith, one_contained 3 2 p)
none (next ∷ []) p = ends next 2 p.0 p.1
none (next ∷ more ∷ rest) p = ends next more p.0 p.1.0

pub returns-clause-none : goal.returns-clause-none
returns-clause-none c = λ h. none h.0 h.1
