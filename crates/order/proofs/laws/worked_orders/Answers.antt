use Rattle.std.proofs.Common.{ℕ, [], refl, arith}
use Rattle.std.specs.Prelude.{Contains}
use Rattle.order.proofs.laws.worked_orders.Goals as goal

nothing : (x : ℕ) → Contains [] x → ⊥
nothing x (k, h, e) = omega arith

pub returns-clause-before : goal.returns-clause-before
returns-clause-before c = λ o. nothing 1 (o.behind 0 2 refl).0
