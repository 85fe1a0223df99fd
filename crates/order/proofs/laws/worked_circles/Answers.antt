use Rattle.std.proofs.Common.{ℕ, ◌<◌, [], ◌∷◌, refl, arith}
use Rattle.std.specs.Prelude.{Contains}
use Rattle.order.proofs.OrderLemmas.{path_needed}
use Rattle.order.proofs.laws.worked_circles.Goals as goal

-- the number of a list of one
here : (x : ℕ) → Contains (x ∷ []) x
here x = (0, omega arith, refl)

pub returns-clause-one : goal.returns-clause-one
returns-clause-one c = (2 ∷ [], (here 2, here 1))

pub returns-clause-two : goal.returns-clause-two
returns-clause-two c = (1 ∷ [], (here 1, here 2))

pub returns-clause-none : goal.returns-clause-none
returns-clause-none c = λ circle.
    let low : 0 < 0 = path_needed (λ m. 0 < m) ((1 ∷ []) ∷ (2 ∷ []) ∷ (1 ∷ []) ∷ []) 0 circle.0 0 ((omega arith, tt), ((omega arith, tt), ((omega arith, tt), tt))) circle.1 in
    omega arith
