-- Bitwise operators, bit by bit.
use Rattle.std.proofs.Common.{◌≡◌, ℕ, ◌+◌, ◌-◌, ◌*◌, ◌/◌, ◌%◌, ◌^◌, ◌<◌, min, max, bit_and, bit_or, bit_xor, ap, ◌∙◌, arith}
use Rattle.std.proofs.Math.Nat.{div-add-mod', mod-lt}
use Rattle.std.proofs.lemmas.Nat.{pow_pos, shr_high, and_le_l, or_lt, xor_lt, div_below}
use Rattle.std.proofs.lemmas.Nat.Bits.{bit_at_and, bit_at_or, bit_at_xor}
use Rattle.base.specs.declared.operators.Binary.TheVariants as binary
use Rattle.base.specs.Word.{bit}
use Rattle.base.specs.Operator.{ones, binary_value}
use Rattle.base.proofs.SignedLaws.{half}
use Rattle.base.proofs.RotationLaws.{powers}

-- a word with all bits negated
pub not_bit : (n x i : ℕ) → x < 2 ^ n → i < n → bit (ones n - x) i ≡ 1 - bit x i
not_bit n x i p q =
    let all = powers n i (omega arith) in
    let high : x / 2 ^ i < 2 ^ (n - i) = div_below x (2 ^ i) (2 ^ (n - i)) (pow_pos i) (omega (arith, all)) in
    let rest : 2 ^ (n - i) - 1 - x / 2 ^ i + 1 + x / 2 ^ i ≡ 2 ^ (n - i) = omega arith in
    let low : 2 ^ i - 1 - x % 2 ^ i < 2 ^ i = omega (arith, pow_pos i) in
    let parts : ones n - x ≡ (2 ^ (n - i) - 1 - x / 2 ^ i) * 2 ^ i + (2 ^ i - 1 - x % 2 ^ i) = omega (arith, ap (λ k. k * 2 ^ i) rest, div-add-mod' x (2 ^ i), mod-lt x (pow_pos i), all) in
    rw (parts, shr_high (2 ^ (n - i) - 1 - x / 2 ^ i) i (2 ^ i - 1 - x % 2 ^ i) low) (omega (arith, half (n - i) (omega arith)))

pub nand_bit : (n a b i : ℕ) → a < 2 ^ n → i < n → bit (binary_value binary.Nand n a b) i ≡ 1 - min (bit a i) (bit b i)
nand_bit n a b i p q = not_bit n (bit_and a b) i (omega (arith, and_le_l a b)) q ∙ ap (λ k. 1 - k) (bit_at_and a b i)

pub nor_bit : (n a b i : ℕ) → a < 2 ^ n → b < 2 ^ n → i < n → bit (binary_value binary.Nor n a b) i ≡ 1 - max (bit a i) (bit b i)
nor_bit n a b i p r q = not_bit n (bit_or a b) i (or_lt n a b p r) q ∙ ap (λ k. 1 - k) (bit_at_or a b i)

pub xnor_bit : (n a b i : ℕ) → a < 2 ^ n → b < 2 ^ n → i < n → bit (binary_value binary.Xnor n a b) i ≡ 1 - (bit a i + bit b i) % 2
xnor_bit n a b i p r q = not_bit n (bit_xor a b) i (xor_lt n a b p r) q ∙ ap (λ k. 1 - k) (bit_at_xor a b i)
