-- Steps that are counted at once.
use Rattle.std.proofs.Common.{◌≡◌, ℕ, zero, suc, ◌+◌, ◌-◌, ◌^◌, ◌<◌, min, ap, ◌∙◌, arith}
use Rattle.base.specs.Steps.{one_more, more_steps}

pub more_steps-min : (n count : ℕ) → count < 2 ^ 128 → more_steps n count ≡ min (count + n) (2 ^ 128 - 1)
more_steps-min zero count h = omega arith
more_steps-min (suc n) count h = omega (arith, more_steps-min n count h)

-- steps after steps
pub more_steps-sum : (m n count : ℕ) → more_steps n (more_steps m count) ≡ more_steps (m + n) count
more_steps-sum m zero count = let same : m ≡ m + zero = omega arith in ap (λ (k : ℕ). more_steps k count) same
more_steps-sum m (suc n) count = let same : suc (m + n) ≡ m + suc n = omega arith in ap one_more (more_steps-sum m n count) ∙ ap (λ (k : ℕ). more_steps k count) same
