-- Words moved by shifts and rotations: by two amounts in turn, and by one amount below the width.
use Rattle.std.proofs.Common.{◌≡◌, ℕ, ◌+◌, ◌-◌, ◌*◌, ◌/◌, ◌%◌, ◌^◌, ◌<◌, ◌≤◌, Bool, true, false, if◌then◌else◌, pos, inl, inr, refl, sym, ap, ◌∙◌, arith}
use Rattle.std.proofs.Math.Nat.{mul_assoc, mod-eq_of_lt, mod-mod, mod-add-mod, mul-mod_left, div-le_self, zero-div, zero-mod, div-add-mod', mod-lt}
use Rattle.std.proofs.lemmas.Bool.{cases_lt, false≢true}
use Rattle.std.proofs.lemmas.Bool.Decides.{nat_tests}
use Rattle.std.proofs.lemmas.Nat.{pow_pos, pow-add, shl-shr, shr-shr, mul-mod_first, mod-pow-add, shr_high, mod_low, div_below}
use Rattle.std.proofs.lemmas.Nat.Bits.{same_from_bits_below}
use Rattle.base.specs.declared.operators.Binary.{Binary}
use Rattle.base.specs.declared.operators.Binary.TheVariants.{Sll, Srl, Sra, Rol, Ror}
use Rattle.base.specs.Operator.{ones, binary_value, rotated_left, rotated_right}
use Rattle.base.specs.Signed.{signed}
use Rattle.base.specs.Word.{bit, bit_number}
use Rattle.base.proofs.SignedLaws.{half}
use Rattle.base.proofs.ShiftLaws.{sra_high}
use Rattle.base.proofs.ShiftLemmas.{shifted_out_left, shifted_out_right}
use Rattle.base.proofs.RotationLaws.{powers, rotated_left_below, rotated_right_below, ror_bit, ror_rol, rol_ror}
use Rattle.gates.specs.Tests.{is_move, is_shift}

-- a word whose sign is 0 is shifted as a whole number
sra_low : (n a b : ℕ) → 1 ≤ n → a < 2 ^ (n - 1) → binary_value Sra n a b ≡ a / 2 ^ b
sra_low n a b h p =
    let under : signed n a ≡ pos a = grind (arith, nat_tests) in
    let whole : a / 2 ^ b % 2 ^ n ≡ a / 2 ^ b = mod-eq_of_lt (omega (arith, div-le_self a (2 ^ b), half n h)) in
    rw (under, whole) refl

sra_again : (n a x y : ℕ) → 1 ≤ n → a < 2 ^ n → binary_value Sra n (binary_value Sra n a x) y ≡ binary_value Sra n a (x + y)
sra_again n a x y h p = elim (cases_lt a (2 ^ (n - 1))) [
  | inl low ↦
      let still : a / 2 ^ x < 2 ^ (n - 1) = omega (arith, div-le_self a (2 ^ x)) in
      rw (sra_low n a x h low, sra_low n a (x + y) h low, sra_low n (a / 2 ^ x) y h still) (shr-shr a x y)
  | inr high ↦
      let rest : (ones n - a) / 2 ^ x ≤ ones n - a = div-le_self (ones n - a) (2 ^ x) in
      let twice = half n h in
      let still : 2 ^ (n - 1) ≤ ones n - (ones n - a) / 2 ^ x = omega arith in
      let within : ones n - (ones n - a) / 2 ^ x < 2 ^ n = omega (arith, pow_pos n) in
      let back : ones n - (ones n - (ones n - a) / 2 ^ x) ≡ (ones n - a) / 2 ^ x = omega arith in
      ap (λ w. binary_value Sra n w y) (sra_high n a x h high p) ∙ sra_high n (ones n - (ones n - a) / 2 ^ x) y h still within
      ∙ ap (λ w. ones n - w / 2 ^ y) back ∙ ap (λ w. ones n - w) (shr-shr (ones n - a) x y) ∙ sym (sra_high n a (x + y) h high p)
]

ror_again : (n a x y : ℕ) → 1 ≤ n → a < 2 ^ n → binary_value Ror n (binary_value Ror n a x) y ≡ binary_value Ror n a (x + y)
ror_again n a x y h p =
    let once : binary_value Ror n a x < 2 ^ n = rotated_right_below n a (x % n) (omega arith) p in
    let twice : binary_value Ror n (binary_value Ror n a x) y < 2 ^ n = rotated_right_below n (binary_value Ror n a x) (y % n) (omega arith) once in
    let whole : binary_value Ror n a (x + y) < 2 ^ n = rotated_right_below n a ((x + y) % n) (omega arith) p in
    same_from_bits_below n (binary_value Ror n (binary_value Ror n a x) y) (binary_value Ror n a (x + y)) twice whole
    (λ i q.
    let inside : (i + y) % n < n = omega arith in
    let place : ((i + y) % n + x) % n ≡ (i + (x + y)) % n = mod-add-mod (i + y) n x ∙ ap (λ k. k % n) (omega arith) in
    ror_bit n (binary_value Ror n a x) y i once q ∙ ror_bit n a x ((i + y) % n) p inside ∙ ap (bit a) place ∙ sym (ror_bit n a (x + y) i p q))

rol_again : (n a x y : ℕ) → 1 ≤ n → a < 2 ^ n → binary_value Rol n (binary_value Rol n a x) y ≡ binary_value Rol n a (x + y)
rol_again n a x y h p =
    let once : binary_value Rol n a x < 2 ^ n = rotated_left_below n a (x % n) (omega arith) p in
    let z = binary_value Rol n (binary_value Rol n a x) y in
    let twice : z < 2 ^ n = rotated_left_below n (binary_value Rol n a x) (y % n) (omega arith) once in
    let same_amount : y + x ≡ x + y = omega arith in
    let back : binary_value Ror n z (x + y) ≡ a =
    ap (binary_value Ror n z) (sym same_amount) ∙ sym (ror_again n z y x h twice) ∙ ap (λ w. binary_value Ror n w x) (ror_rol n (binary_value Rol n a x) y h once) ∙ ror_rol n a x h p
    in
    sym (rol_ror n z (x + y) h twice) ∙ ap (λ w. binary_value Rol n w (x + y)) back

-- moved by one amount and then by another is moved by both
pub moved_again : (op : Binary) (n a x y : ℕ) → is_move op ≡ true → 1 ≤ n → a < 2 ^ n → binary_value op n (binary_value op n a x) y ≡ binary_value op n a (x + y)
moved_again Sll n a x y is h p =
    mul-mod_first (a * 2 ^ x) (2 ^ y) (2 ^ n) ∙ ap (λ k. k % 2 ^ n) (mul_assoc a (2 ^ x) (2 ^ y) ∙ ap (λ k. a * k) (sym (pow-add 2 x y)))
moved_again Srl n a x y is h p = shr-shr a x y
moved_again Sra n a x y is h p = sra_again n a x y h p
moved_again Rol n a x y is h p = rol_again n a x y h p
moved_again Ror n a x y is h p = ror_again n a x y h p
moved_again _ n a x y is h p = absurd (false≢true is)

-- Of two words one behind the other, the n bits from place k on.
abbrev pub window_value : ℕ → ℕ → ℕ → ℕ → ℕ
window_value n low high k = low / 2 ^ k + 2 ^ (n - k) * (high % 2 ^ k)

-- a shift to the left keeps the low bits
low_kept : (n a k : ℕ) → k ≤ n → a * 2 ^ k % 2 ^ n ≡ 2 ^ k * (a % 2 ^ (n - k))
low_kept n a k h =
    let parts : n - k + k ≡ n = omega arith in
    ap (λ m. a * 2 ^ k % 2 ^ m) (sym parts) ∙ mod-pow-add (a * 2 ^ k) (n - k) k
    ∙ rw (mul-mod_left a (2 ^ k), shl-shr a k) (omega arith)

pub sll_window : (n a k : ℕ) → k ≤ n → window_value n 0 a (n - k) ≡ binary_value Sll n a k
sll_window n a k h =
    let back : n - (n - k) ≡ k = omega arith in
    rw (zero-div (2 ^ (n - k)), back) (omega (arith, low_kept n a k h))

pub srl_window : (n a k : ℕ) → window_value n a 0 k ≡ binary_value Srl n a k
srl_window n a k = rw (zero-mod (2 ^ k)) (omega arith)

pub ror_window : (n a k : ℕ) → k < n → window_value n a a k ≡ binary_value Ror n a k
ror_window n a k h =
    let small : k % n ≡ k = mod-eq_of_lt h in
    let back : n - (n - k) ≡ k = omega arith in
    let low : a * 2 ^ (n - k) % 2 ^ n ≡ 2 ^ (n - k) * (a % 2 ^ k) = rw back at (low_kept n a (n - k) (omega arith)) in
    rw (small, low) refl

pub rol_window : (n a k : ℕ) → k < n → window_value n a a (n - k) ≡ binary_value Rol n a k
rol_window n a k h =
    let small : k % n ≡ k = mod-eq_of_lt h in
    let back : n - (n - k) ≡ k = omega arith in
    rw (small, back) (omega (arith, low_kept n a k (omega arith)))

-- a shift of the bits negated
not_shifted : (n a k : ℕ) → k ≤ n → a < 2 ^ n → (ones n - a) / 2 ^ k ≡ 2 ^ (n - k) - 1 - a / 2 ^ k
not_shifted n a k h p =
    let all = powers n k h in
    let high : a / 2 ^ k < 2 ^ (n - k) = div_below a (2 ^ k) (2 ^ (n - k)) (pow_pos k) (omega (arith, all)) in
    let rest : 2 ^ (n - k) - 1 - a / 2 ^ k + 1 + a / 2 ^ k ≡ 2 ^ (n - k) = omega arith in
    let low : 2 ^ k - 1 - a % 2 ^ k < 2 ^ k = omega (arith, pow_pos k) in
    let parts : ones n - a ≡ (2 ^ (n - k) - 1 - a / 2 ^ k) * 2 ^ k + (2 ^ k - 1 - a % 2 ^ k) = omega (arith, ap (λ m. m * 2 ^ k) rest, div-add-mod' a (2 ^ k), mod-lt a (pow_pos k), all) in
    rw parts (shr_high (2 ^ (n - k) - 1 - a / 2 ^ k) k (2 ^ k - 1 - a % 2 ^ k) low)

-- the low bits of the word of all ones
low_ones : (n k : ℕ) → k ≤ n → ones n % 2 ^ k ≡ 2 ^ k - 1
low_ones n k h =
    let rest : 2 ^ (n - k) - 1 + 1 ≡ 2 ^ (n - k) = omega (arith, pow_pos (n - k)) in
    let parts : ones n ≡ (2 ^ (n - k) - 1) * 2 ^ k + (2 ^ k - 1) = omega (arith, ap (λ m. m * 2 ^ k) rest, powers n k h, pow_pos k) in
    rw parts (mod_low (2 ^ (n - k) - 1) k (2 ^ k - 1) (omega (arith, pow_pos k)))

pub sra_window_low : (n a k : ℕ) → 1 ≤ n → a < 2 ^ (n - 1) → window_value n a 0 k ≡ binary_value Sra n a k
sra_window_low n a k h p = srl_window n a k ∙ sym (sra_low n a k h p)

pub sra_window_high : (n a k : ℕ) → 1 ≤ n → k ≤ n → 2 ^ (n - 1) ≤ a → a < 2 ^ n → window_value n a (ones n) k ≡ binary_value Sra n a k
sra_window_high n a k h le high p =
    let all = powers n k le in
    let below : a / 2 ^ k < 2 ^ (n - k) = div_below a (2 ^ k) (2 ^ (n - k)) (pow_pos k) (omega (arith, all)) in
    let rest : 2 ^ k - 1 + 1 ≡ 2 ^ k = omega (arith, pow_pos k) in
    let product : 2 ^ (n - k) * (2 ^ k - 1) + 2 ^ (n - k) ≡ 2 ^ n = omega (arith, ap (λ m. 2 ^ (n - k) * m) rest, all) in
    rw (low_ones n k le) (omega (arith, product, not_shifted n a k le p) ∙ sym (sra_high n a k h high p))

-- what is left by an amount of the width and above
pub moved_out_left : (n a b : ℕ) → n ≤ b → binary_value Sll n a b ≡ 0
moved_out_left = shifted_out_left

pub moved_out_right : (n a b : ℕ) → n ≤ b → a < 2 ^ n → binary_value Srl n a b ≡ 0
moved_out_right n a b h p = shifted_out_right n a b h p

pub moved_out_low : (n a b : ℕ) → 1 ≤ n → n ≤ b → a < 2 ^ (n - 1) → binary_value Sra n a b ≡ 0
moved_out_low n a b h le p = sra_low n a b h p ∙ shifted_out_right n a b le (omega (arith, half n h))

pub moved_out_high : (n a b : ℕ) → 1 ≤ n → n ≤ b → 2 ^ (n - 1) ≤ a → a < 2 ^ n → binary_value Sra n a b ≡ ones n
moved_out_high n a b h le high p = let all : ones n - 0 ≡ ones n = omega arith in sra_high n a b h high p ∙ ap (λ w. ones n - w) (shifted_out_right n (ones n - a) b le (omega (arith, pow_pos n))) ∙ all

-- an amount counts modulo the width in a rotation
counts_modulo : (op : Binary) (n a k : ℕ) → is_move op ≡ true → (is_shift op ≡ true → k < n) → binary_value op n a (k % n) ≡ binary_value op n a k
counts_modulo Sll n a k is near = ap (binary_value Sll n a) (mod-eq_of_lt (near refl))
counts_modulo Srl n a k is near = ap (binary_value Srl n a) (mod-eq_of_lt (near refl))
counts_modulo Sra n a k is near = ap (binary_value Sra n a) (mod-eq_of_lt (near refl))
counts_modulo Rol n a k is near = ap (rotated_left n a) (mod-mod k n)
counts_modulo Ror n a k is near = ap (rotated_right n a) (mod-mod k n)
counts_modulo _ n a k is near = absurd (false≢true is)

-- a word that was moved by some amount, moved by a power of two more or not
pub moved_more : (op : Binary) (n a m k : ℕ) (b : Bool) → is_move op ≡ true → (is_shift op ≡ true → k < n) → 1 ≤ n → a < 2 ^ n
    → (if b then binary_value op n (binary_value op n a m) (k % n) else binary_value op n a m) ≡ binary_value op n a (m + k * bit_number b)
moved_more op n a m k true is near some p = counts_modulo op n (binary_value op n a m) k is near ∙ moved_again op n a m k is some p ∙ ap (binary_value op n a) (omega arith)
moved_more op n a m k false is near some p = ap (binary_value op n a) (omega arith)
