-- Laws of shifts, and of the words one more, one less and negated.
use Rattle.std.proofs.Common.{◌≡◌, ℕ, ◌+◌, ◌-◌, ◌/◌, ◌%◌, ◌^◌, ◌<◌, ◌≤◌, pos, negsuc, ◌-ℤ◌, ◌∙◌, arith}
use Rattle.std.proofs.Math.Nat.{mod-eq_of_lt}
use Rattle.std.proofs.lemmas.Nat.{pow_pos, shr_le}
use Rattle.std.proofs.lemmas.Int.{ints}
use Rattle.base.specs.declared.operators.Unary.TheVariants as unary
use Rattle.base.specs.declared.operators.Binary.TheVariants as binary
use Rattle.base.specs.Operator.{ones, unary_value, binary_value}
use Rattle.base.specs.Signed.{signed, wrapped}
use Rattle.base.proofs.SignedLaws.{signed_is, same_left, same_word}

-- a word of the upper half moves as its bits negated do
pub sra_high : (n a b : ℕ) → 1 ≤ n → 2 ^ (n - 1) ≤ a → a < 2 ^ n
    → binary_value binary.Sra n a b ≡ unary_value unary.Not n (binary_value binary.Srl n (unary_value unary.Not n a) b)
sra_high n a b h p q =
    let under : signed n a ≡ negsuc (ones n - a) = omega (arith, ints, signed_is n a h q) in
    let whole : (ones n - a) / 2 ^ b % 2 ^ n ≡ (ones n - a) / 2 ^ b = mod-eq_of_lt (omega (arith, shr_le (ones n - a) (2 ^ b))) in
    rw (under, whole)

-- the negated word
pub neg_is_inc_not : (n a : ℕ) → a < 2 ^ n → unary_value unary.Neg n a ≡ unary_value unary.Inc n (unary_value unary.Not n a)
neg_is_inc_not n a p =
    same_word n (pos 0 -ℤ pos a) (pos (ones n - a + 1)) (record { less = 1; more = 0; same = omega (arith, ints) })

pub sub_is_add_neg : (n a b : ℕ) → binary_value binary.Sub n a b ≡ binary_value binary.Add n a (unary_value unary.Neg n b)
sub_is_add_neg n a b =
    let s = same_left (pos 0 -ℤ pos b) (2 ^ n) (pow_pos n) in
    same_word n (pos a -ℤ pos b) (pos (a + wrapped n (pos 0 -ℤ pos b)))
    (record { less = s.more; more = s.less; same = omega (arith, ints, s.same) })

-- one more and one less
pub dec_inc : (n a : ℕ) → a < 2 ^ n → unary_value unary.Dec n (unary_value unary.Inc n a) ≡ a
dec_inc n a p =
    let s = same_left (pos (a + 1)) (2 ^ n) (pow_pos n) in
    same_word n (pos ((a + 1) % 2 ^ n) -ℤ pos 1) (pos a) (record { less = s.less; more = s.more; same = omega (arith, ints, s.same) })
    ∙ mod-eq_of_lt p

pub inc_dec : (n a : ℕ) → a < 2 ^ n → unary_value unary.Inc n (unary_value unary.Dec n a) ≡ a
inc_dec n a p =
    let s = same_left (pos a -ℤ pos 1) (2 ^ n) (pow_pos n) in
    same_word n (pos (wrapped n (pos a -ℤ pos 1) + 1)) (pos a) (record { less = s.less; more = s.more; same = omega (arith, ints, s.same) })
    ∙ mod-eq_of_lt p
