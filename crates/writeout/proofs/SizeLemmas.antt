-- Sizes of sorts.
use Rattle.std.proofs.Common.{◌≡◌, ◌⊎◌, inl, inr, ℕ, suc, ◌*◌, ◌^◌, ◌<◌, ◌≤◌, Option, Some, None, IfSome, true, is_some, arith}
use Prim.Native.Nat.{zero}
use Rattle.std.proofs.lemmas.Bool.{cases_lt, false≢true}
use Rattle.std.proofs.Math.Nat.{mul-le-mul_left}
use Rattle.std.proofs.Common.{pow_mono}
use Rattle.full.specs.Lines.{Sort, sort_size, size_of}

pub few_bits : (k n : ℕ) → 1 ≤ 2 ^ k * n → 2 ^ k * n ≤ 1048576 → k < 64
few_bits k zero some most = absurd (omega (arith, some))
few_bits k (suc n) some most = by (cases_lt k 64)
  where
    by : (k < 64) ⊎ (64 ≤ k) → k < 64
    by (inl below) = below
    by (inr above) =
        let great : 2 ^ 64 ≤ 2 ^ k = pow_mono above in
        let product : 2 ^ k * 1 ≤ 2 ^ k * suc n = mul-le-mul_left (2 ^ k) (omega arith) in
        absurd (omega (arith, great, product, most))

-- of a sort that is there, and of any
pub size_least : (o : Option Sort) → IfSome o (λ s. (1 ≤ sort_size s) × (sort_size s ≤ 1048576)) → is_some o ≡ true → 1 ≤ size_of o
size_least None h there = absurd (false≢true there)
size_least (Some s) h there = h.0

pub size_most : (o : Option Sort) → IfSome o (λ s. (1 ≤ sort_size s) × (sort_size s ≤ 1048576)) → size_of o ≤ 1048576
size_most None h = omega arith
size_most (Some s) h = h.1
