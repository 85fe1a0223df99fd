-- Words read as signed numbers.
use Rattle.std.proofs.Common.{◌≡◌, ℕ, suc, ◌+◌, ◌-◌, ◌*◌, ◌/◌, ◌%◌, ◌^◌, ◌<◌, ◌≤◌, true, false, nat_lt, inl, inr, sym, ap, ◌∙◌, arith, pos, negsuc, to_z, FitsSigned, w64}
use Rattle.std.specs.Int.{int_shr}
use Rattle.std.proofs.Math.Nat.{mul-le-mul_right}
use Rattle.std.proofs.lemmas.Bool.{cases_lt, lt-ltb, le-ltb}
use Rattle.std.proofs.lemmas.Int.{ints, to_z-of_z}
use Rattle.std.proofs.lemmas.Nat.{pow-add, pow_pos, shl-shr, shl_below, shl_whole, div-mul-add}
use Rattle.base.specs.Signed.{signed}

-- a word below the sign bit, moved up and back
moved_positive : (n u x : ℕ) → n - 1 + u ≡ 63 → x < 2 ^ (n - 1) → int_shr (to_z w64 (x * 2 ^ u)) u ≡ signed n x
moved_positive n u x e low =
    let below : x * 2 ^ u < 2 ^ (n - 1 + u) = shl_below x (n - 1) u low in
    let small : x * 2 ^ u < 2 ^ 63 = rw e at below in
    let read : to_z w64 (x * 2 ^ u) ≡ pos (x * 2 ^ u) = omega (arith, ints) in
    let test : nat_lt x (2 ^ (n - 1)) ≡ true = lt-ltb x (2 ^ (n - 1)) low in
    rw (read, test) (ap pos (shl-shr x u))

-- a product with a sum of three
spread : (a b p : ℕ) → a * p + b * p + p ≡ (a + b + 1) * p
spread a b p = omega arith

-- a word with the sign bit, moved up and back
moved_negative : (n u x rest : ℕ) → 0 < n → n + u ≡ 64 → 2 ^ (n - 1) ≤ x → rest + x + 1 ≡ 2 ^ n → int_shr (to_z w64 (x * 2 ^ u)) u ≡ signed n x
moved_negative n u x rest some e high split =
    let half : 2 ^ (n - 1) * 2 ^ u ≡ 2 ^ 63 = (let e' : n - 1 + u ≡ 63 = omega arith in sym (pow-add 2 (n - 1) u) ∙ ap (λ k. 2 ^ k) e') in
    let room : 2 ^ n * 2 ^ u ≡ 2 ^ 64 = sym (pow-add 2 n u) ∙ ap (λ k. 2 ^ k) e in
    let large : 2 ^ (n - 1) * 2 ^ u ≤ x * 2 ^ u = mul-le-mul_right (2 ^ u) high in
    let parts = spread rest x (2 ^ u) ∙ ap (λ k. k * 2 ^ u) split ∙ room in
    let low = rest * 2 ^ u + (2 ^ u - 1) in
    let bits : x * 2 ^ u ≡ 2 ^ 64 - suc low = omega (arith, pow_pos u) in
    let fits : FitsSigned w64 (negsuc low) = omega (arith, ints, pow_pos u) in
    let read : to_z w64 (x * 2 ^ u) ≡ negsuc low = ap (to_z w64) bits ∙ to_z-of_z w64 (negsuc low) fits in
    let test : nat_lt x (2 ^ (n - 1)) ≡ false = le-ltb x (2 ^ (n - 1)) high in
    let back : low / 2 ^ u ≡ rest = div-mul-add rest (2 ^ u) (2 ^ u - 1) (omega (arith, pow_pos u)) in
    rw (read, test) (ap negsuc back ∙ omega (arith, ints))

-- a word whose highest bit is moved to the place of the sign of 64 bits, and back
pub signed_by_shifts : (n u x : ℕ) → 0 < n → n + u ≡ 64 → x < 2 ^ n → int_shr (to_z w64 (x * 2 ^ u % 2 ^ 64)) u ≡ signed n x
signed_by_shifts n u x some e below =
    let whole : x * 2 ^ u % 2 ^ 64 ≡ x * 2 ^ u = shl_whole x n u 64 below (omega arith) in
    rw whole (elim (cases_lt x (2 ^ (n - 1))) [
      | inl low ↦ moved_positive n u x (omega arith) low
      | inr high ↦ moved_negative n u x (2 ^ n - 1 - x) some e high (omega arith)
    ])
