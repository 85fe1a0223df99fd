-- Words negated where a literal is true, the sizes of signed numbers, products by them, and the gates that make them.
use Rattle.std.proofs.Common.{◌≡◌, ℕ, zero, suc, ◌+◌, ◌-◌, ◌*◌, ◌%◌, ◌^◌, ◌<◌, ◌≤◌, Bool, true, false, not, ◌&&◌, ◌||◌, ◌==◌, nat_le, if◌then◌else◌, List, [], ◌∷◌, ◌++◌, length, take, get_or, ℤ, pos, negsuc, neg_ℤ, ◌-ℤ◌, ◌*ℤ◌, unsigned_abs, inl, inr, subst, refl, sym, ap, ap₂, ◌∙◌, arith}
use Rattle.std.proofs.Math.Nat.{mod-eq_of_lt}
use Rattle.std.proofs.lemmas.Nat.{pow_pos, mul-le}
use Rattle.std.proofs.lemmas.Bool.Decides.{nat_tests}
use Rattle.std.proofs.lemmas.Int.{ints}
use Rattle.std.proofs.lemmas.List.{length_push, length-take-le, take_all}
use Rattle.std.proofs.lemmas.List.Elements.{All-push}
use Rattle.base.specs.Word.{bit_number}
use Rattle.base.specs.declared.operators.Unary.TheVariants as unary
use Rattle.base.specs.declared.operators.Binary.TheVariants as binary
use Rattle.base.specs.Operator.{unary_value, binary_value}
use Rattle.base.specs.Signed.{signed, overflows}
use Rattle.base.proofs.BitLemmas.{two_more}
use Rattle.base.proofs.SignedLaws.{half, signed_low, signed_high, signed_is, overflows_in}
use Rattle.base.proofs.WrapLemmas.{wrapped_is}
use Rattle.base.specs.Literal.{Valuation, literal_value, negation}
use Rattle.aiger.specs.Net.{Net, IsDefined}
use Rattle.base.proofs.LiteralLemmas.{literal_value-negation}
use Rattle.gates.specs.Connect.{differ}
use Rattle.gates.specs.Made.{Grows, MakesAnd, MakesLiteral, MakesWord, word_value}
use Rattle.gates.specs.Sums.{literal_number}
use Rattle.gates.proofs.GrowthLemmas.{Grows-weaker, Grows-trans, Satisfies-earlier, IsDefined-grown, All-defined-grown}
use Rattle.gates.proofs.BitListLemmas.{MakesWord-same, MakesWord-weaker, word_value-below, word_value-more}
use Rattle.gates.proofs.SumLemmas.{word_value-push}
use Rattle.gates.proofs.WindowLemmas.{sign-zero, sign-one}
use Rattle.gates.proofs.OrderLemmas.{MakesWord-test, front_below}
use Rattle.gates.proofs.OverflowLemmas.{overflows_far}

-- whether a number is below 0
abbrev pub is_negative : ℤ → Bool
is_negative (pos a) = false
is_negative (negsuc a) = true

-- a number of a sign and a size
abbrev pub with_sign : Bool → ℕ → ℤ
with_sign t k = if t then neg_ℤ (pos k) else pos k

-- the highest bit of a word is the sign of its number
pub sign_is : (n a : ℕ) (x : Bool) → a < 2 ^ n → (x ≡ false → a < 2 ^ (n - 1)) → (x ≡ true → 2 ^ (n - 1) ≤ a) → is_negative (signed n a) ≡ x
sign_is n a true below low high =
    let e : pos a -ℤ pos (2 ^ n) ≡ negsuc (2 ^ n - 1 - a) = omega (arith, ints) in
    ap is_negative (signed_high n a (high refl) ∙ e)
sign_is n a false below low high = ap is_negative (signed_low n a (low refl))

-- a word negated
pub negated_word : (n k m : ℕ) → m < 2 ^ n → m + k ≡ 2 ^ n → unary_value unary.Neg n k ≡ m
negated_word n k m below is = wrapped_is n (pos 0 -ℤ pos k) 1 m (omega (arith, ints)) ∙ mod-eq_of_lt below

-- the size of a word's number is the word, negated where its highest bit is 1
pub size_is : (n a : ℕ) (x : Bool) → 1 ≤ n → a < 2 ^ n → (x ≡ false → a < 2 ^ (n - 1)) → (x ≡ true → 2 ^ (n - 1) ≤ a)
    → (if x then unary_value unary.Neg n a else a) ≡ unsigned_abs (signed n a)
size_is n a true some below low high =
    let least = high refl in
    let p = pow_pos (n - 1) in
    let size : unsigned_abs (pos a -ℤ pos (2 ^ n)) ≡ 2 ^ n - a = omega (arith, ints) in
    negated_word n a (2 ^ n - a) (omega arith) (omega arith) ∙ sym (ap unsigned_abs (signed_high n a least) ∙ size)
size_is n a false some below low high = sym (ap unsigned_abs (signed_low n a (low refl)))

-- sizes are words
pub size_below : (n a : ℕ) → 1 ≤ n → a < 2 ^ n → unsigned_abs (signed n a) < 2 ^ n
size_below n a some below = omega (arith, ints, half n some, signed_is n a some below, pow_pos (n - 1))

-- the size of a word's number
pub MakesWord-size : (old new : Net) (n sign : ℕ) (a bits : List ℕ) → 1 ≤ n → length a ≡ n → sign ≡ get_or a (n - 1) sign
    → MakesWord old new (12 * n) n (λ v. if literal_value v sign then unary_value unary.Neg n (word_value v a) else word_value v a) bits
    → MakesWord old new (12 * n) n (λ v. unsigned_abs (signed n (word_value v a))) bits
MakesWord-size old new n sign a bits some wide is makes =
    MakesWord-same old new (12 * n) n _ _ bits
    (λ v. size_is n (word_value v a) (literal_value v sign) some (word_value-below v a n wide) (sign-zero v a n sign some wide is) (sign-one v a n sign some wide is))
    makes

-- a word below p negated in as many words where a bit says so
abbrev pub negated_if : Bool → ℕ → ℕ → ℕ
negated_if t p w = if t && not (w == 0) then p - w else w

-- whether the bit above a word flips where the word is negated
abbrev pub flips_above : Bool → ℕ → Bool
flips_above t w = t && not (w == 0)

-- a bit more: it is another where the word is negated and not 0
bit_negated : (p w : ℕ) (t x : Bool) → w < p → negated_if t p w + p * bit_number (differ x (flips_above t w)) ≡ negated_if t (2 * p) (w + p * bit_number x)
bit_negated p w false true below = refl
bit_negated p w false false below = refl
bit_negated p zero true true below = grind (arith, nat_tests)
bit_negated p (suc w) true true below = grind (arith, nat_tests)
bit_negated p zero true false below = grind (arith, nat_tests)
bit_negated p (suc w) true false below = grind (arith, nat_tests)

bit_flips : (p w : ℕ) (t x : Bool) → w < p → (t && (x || flips_above t w)) ≡ flips_above t (w + p * bit_number x)
bit_flips p w false x below = refl
bit_flips p zero true true below = grind (arith, nat_tests)
bit_flips p (suc w) true true below = grind (arith, nat_tests)
bit_flips p zero true false below = grind (arith, nat_tests)
bit_flips p (suc w) true false below = grind (arith, nat_tests)

-- the negated word of all bits
negated_whole : (n w : ℕ) (t : Bool) → w < 2 ^ n → negated_if t (2 ^ n) w ≡ (if t then unary_value unary.Neg n w else w)
negated_whole n w false below = refl
negated_whole n zero true below = sym (wrapped_is n (pos 0 -ℤ pos 0) 0 0 (omega (arith, ints)) ∙ mod-eq_of_lt (pow_pos n))
negated_whole n (suc w) true below =
    let taken : negated_if true (2 ^ n) (suc w) ≡ 2 ^ n - suc w = grind (arith, nat_tests) in
    taken ∙ sym (negated_word n (suc w) (2 ^ n - suc w) (omega arith) (omega arith))

-- the lowest bits of a word that is negated where a literal is true, and whether the bit above them is another
pub record IsNegatedRow (old new : Net) (i negative : ℕ) (a bits : List ℕ) (flips : ℕ) : Type 0 where
  pub word : MakesWord old new (5 * i) i (λ v. negated_if (literal_value v negative) (2 ^ i) (word_value v (take i a))) bits
  pub above : MakesLiteral old new (5 * i) (λ v. flips_above (literal_value v negative) (word_value v (take i a))) flips

pub IsNegatedRow-push : (n0 n1 n2 n3 n4 : Net) (i negative : ℕ) (a bits : List ℕ) (x flips bit some l : ℕ) → i < length a → x ≡ get_or a i x → IsNegatedRow n0 n1 i negative a bits flips
    → MakesLiteral n1 n2 3 (λ v. differ (literal_value v x) (literal_value v flips)) bit → MakesLiteral n2 n3 1 (λ v. literal_value v x || literal_value v flips) some → MakesAnd n3 n4 negative some l
    → IsNegatedRow n0 n4 (i + 1) negative a (bits ++ bit ∷ []) l
IsNegatedRow-push n0 n1 n2 n3 n4 i negative a bits x flips bit some l inside x_is row flipped either both =
    let behind : Grows n2 n4 2 = Grows-trans n2 n3 n4 1 1 either.grows both.grows in
    let more : Grows n1 n4 5 = Grows-trans n1 n2 n4 3 2 flipped.grows behind in
    let grows : Grows n0 n4 (5 * (i + 1)) = Grows-weaker n0 n4 (5 * i + 5) (5 * (i + 1)) (omega arith) (Grows-trans n0 n1 n4 (5 * i) 5 row.word.grows more) in
    record {
      word = record {
        grows = grows;
        wide = (let w = row.word.wide in let e = length_push bits bit in omega arith);
        defined = All-push (IsDefined n4) bits bit (All-defined-grown n1 n4 5 more bits row.word.defined) (IsDefined-grown n2 n4 2 behind bit flipped.defined);
        means = λ v s.
            let t = literal_value v negative in
            let w = word_value v (take i a) in
            let at_two = Satisfies-earlier n2 n4 2 behind v s in
            let at_one = Satisfies-earlier n1 n2 3 flipped.grows v at_two in
            let bit_is : literal_value v bit ≡ differ (literal_value v x) (flips_above t w) = flipped.means v at_two ∙ ap (differ (literal_value v x)) (row.above.means v at_one) in
            word_value-push v bits bit
            ∙ ap₂ (λ (k m : ℕ). k + 2 ^ m * literal_number v bit) (row.word.means v at_one) row.word.wide
            ∙ ap (λ (y : Bool). negated_if t (2 ^ i) w + 2 ^ i * bit_number y) bit_is
            ∙ bit_negated (2 ^ i) w t (literal_value v x) (front_below v a i (omega arith))
            ∙ ap₂ (negated_if t) (sym (twice i)) (sym (word_value-more v a i x inside x_is));
      };
      above = record {
        grows = grows;
        defined = both.defined;
        means = λ v s.
            let t = literal_value v negative in
            let w = word_value v (take i a) in
            let at_three = Satisfies-earlier n3 n4 1 both.grows v s in
            let at_two = Satisfies-earlier n2 n3 1 either.grows v at_three in
            let at_one = Satisfies-earlier n1 n2 3 flipped.grows v at_two in
            both.means v s
            ∙ ap (λ (y : Bool). t && y) (either.means v at_three ∙ ap (λ (y : Bool). literal_value v x || y) (row.above.means v at_one))
            ∙ bit_flips (2 ^ i) w t (literal_value v x) (front_below v a i (omega arith))
            ∙ ap (flips_above t) (sym (word_value-more v a i x inside x_is));
      };
    }
  where
    twice : (i : ℕ) → 2 ^ (i + 1) ≡ 2 * 2 ^ i
    twice i = let next : i + 1 ≡ suc i = omega arith in ap (λ k. 2 ^ k) next ∙ two_more i

pub MakesWord-negated_where : (old new : Net) (n i negative : ℕ) (a bits : List ℕ) (flips : ℕ) → length a ≡ n → i ≡ n → IsNegatedRow old new i negative a bits flips
    → MakesWord old new (12 * n) n (λ v. if literal_value v negative then unary_value unary.Neg n (word_value v a) else word_value v a) bits
MakesWord-negated_where old new n i negative a bits flips wide all row =
    let whole : take i a ≡ a = take_all i a (omega arith) in
    let word : MakesWord old new (5 * n) n (λ v. negated_if (literal_value v negative) (2 ^ n) (word_value v a)) bits = rw (whole, all) at row.word in
    MakesWord-weaker old new (5 * n) (12 * n) n _ bits (omega arith)
    (MakesWord-same old new (5 * n) n _ _ bits (λ v. negated_whole n (word_value v a) (literal_value v negative) (word_value-below v a n wide)) word)

-- a product by the signs and the sizes of two numbers
product_signs : (y z : ℤ) → y *ℤ z ≡ with_sign (differ (is_negative y) (is_negative z)) (unsigned_abs y * unsigned_abs z)
product_signs (pos a) (pos b) = refl
product_signs (pos a) (negsuc b) = refl
product_signs (negsuc a) (pos b) = refl
product_signs (negsuc a) (negsuc b) = refl

-- the number of a sign and a size, by the size's highest bit: it is none of the width where that is 1, but the least number's
pub size_overflows : (n low : ℕ) (x t : Bool) → low < 2 ^ (n - 1)
    → (x && (not (low == 0) || not t)) ≡ overflows n (with_sign t (low + 2 ^ (n - 1) * bit_number x))
size_overflows n low false false below = sym (overflows_in n (pos (low + 2 ^ (n - 1) * 0)) (omega (arith, ints)) (omega (arith, ints)))
size_overflows n low false true below = sym (overflows_in n (neg_ℤ (pos (low + 2 ^ (n - 1) * 0))) (omega (arith, ints)) (omega (arith, ints, below)))
size_overflows n zero true true below = sym (overflows_in n (neg_ℤ (pos (0 + 2 ^ (n - 1) * 1))) (omega (arith, ints)) (omega (arith, ints, pow_pos (n - 1))))
size_overflows n (suc low) true true below =
    let other : (not (suc low == 0) || false) ≡ true = grind (arith, nat_tests) in
    other ∙ sym (overflows_far n (neg_ℤ (pos (suc low + 2 ^ (n - 1) * 1))) _ refl (inl (omega (arith, ints))))
size_overflows n low true false below = or_true (not (low == 0)) ∙ sym (overflows_far n (pos (low + 2 ^ (n - 1) * 1)) _ refl (inr (omega (arith, ints))))
  where
    or_true : (b : Bool) → (b || true) ≡ true
    or_true true = refl
    or_true false = refl

-- a product that has a part above the width overflows, and one that has none is its word
product_overflows : (n m : ℕ) (t : Bool) → 1 ≤ n → (nat_le (2 ^ n) m || overflows n (with_sign t (m % 2 ^ n))) ≡ overflows n (with_sign t m)
product_overflows n m t some = by (nat_le (2 ^ n) m) t refl
  where
    by : (far t : Bool) → nat_le (2 ^ n) m ≡ far → (far || overflows n (with_sign t (m % 2 ^ n))) ≡ overflows n (with_sign t m)
    by false t e = let below : m < 2 ^ n = grind (arith, nat_tests) in ap (λ k. overflows n (with_sign t k)) (mod-eq_of_lt below)
    by true false e = let least : 2 ^ n ≤ m = grind (arith, nat_tests) in sym (overflows_far n (pos m) _ refl (inr (omega (arith, ints, half n some))))
    by true true e = let least : 2 ^ n ≤ m = grind (arith, nat_tests) in sym (overflows_far n (neg_ℤ (pos m)) _ refl (inl (omega (arith, ints, half n some, pow_pos (n - 1)))))

pub MakesLiteral-size_overflow : (n0 n1 n2 n3 : Net) (size low : List ℕ) (negative not_negative below other x l : ℕ) → 1 ≤ length size → low ≡ take (length size - 1) size → x ≡ get_or size (length size - 1) x → not_negative ≡ negation negative
    → MakesLiteral n0 n1 (length low) (λ v. not (word_value v low == 0)) below → MakesLiteral n1 n2 1 (λ v. literal_value v below || literal_value v not_negative) other → MakesAnd n2 n3 x other l
    → MakesLiteral n0 n3 (length size + 1) (λ v. overflows (length size) (with_sign (literal_value v negative) (word_value v size))) l
MakesLiteral-size_overflow n0 n1 n2 n3 size low negative not_negative below other x l some low_is x_is not_is first second third =
    let n = length size in
    let front : length low ≡ n - 1 = ap length low_is ∙ length-take-le (n - 1) size (omega arith) in
    record {
      grows = Grows-weaker n0 n3 (length low + (1 + 1)) (n + 1) (omega (arith, front)) (Grows-trans n0 n1 n3 (length low) (1 + 1) first.grows (Grows-trans n1 n2 n3 1 1 second.grows third.grows));
      defined = third.defined;
      means = λ v s.
          let at_two = Satisfies-earlier n2 n3 1 third.grows v s in
          let at_one = Satisfies-earlier n1 n2 1 second.grows v at_two in
          let place : n - 1 + 1 ≡ n = omega arith in
          let whole : take (n - 1 + 1) size ≡ size = take_all (n - 1 + 1) size (omega arith) in
          let split : word_value v size ≡ word_value v (take (n - 1) size) + 2 ^ (n - 1) * literal_number v x = ap (word_value v) (sym whole) ∙ word_value-more v size (n - 1) x (omega arith) x_is in
          third.means v s
          ∙ ap (λ y. literal_value v x && y)
          (second.means v at_two ∙ ap₂ ◌||◌ (first.means v at_one ∙ ap (λ (ls : List ℕ). not (word_value v ls == 0)) low_is) (ap (literal_value v) not_is ∙ literal_value-negation v negative))
          ∙ size_overflows n (word_value v (take (n - 1) size)) (literal_value v x) (literal_value v negative) (front_below v size (n - 1) (omega arith))
          ∙ ap (λ w. overflows n (with_sign (literal_value v negative) w)) (sym split);
    }

pub MakesWord-size_product : (n0 n1 n2 n3 : Net) (n : ℕ) (p q bits : List ℕ) (f h : Valuation → ℕ) → MakesWord n0 n1 (12 * n) n f p → MakesWord n1 n2 (12 * n) n h q
    → MakesWord n2 n3 (12 * (length p * length p)) (length p) (λ v. word_value v p * word_value v q % 2 ^ length p) bits → MakesWord n0 n3 (12 * (n * n) + 24 * n) n (λ v. f v * h v % 2 ^ n) bits
MakesWord-size_product n0 n1 n2 n3 n p q bits f h first second makes =
    let product : MakesWord n2 n3 (12 * (n * n)) n (λ v. word_value v p * word_value v q % 2 ^ n) bits = subst (λ (k : ℕ). MakesWord n2 n3 (12 * (k * k)) k (λ v. word_value v p * word_value v q % 2 ^ k) bits) first.wide makes in
    record {
      grows = Grows-weaker n0 n3 (12 * n + (12 * n + 12 * (n * n))) (12 * (n * n) + 24 * n) (omega arith)
          (Grows-trans n0 n1 n3 (12 * n) (12 * n + 12 * (n * n)) first.grows (Grows-trans n1 n2 n3 (12 * n) (12 * (n * n)) second.grows product.grows));
      wide = product.wide;
      defined = product.defined;
      means = λ v s.
          let at_two = Satisfies-earlier n2 n3 (12 * (n * n)) product.grows v s in
          let at_one = Satisfies-earlier n1 n2 (12 * n) second.grows v at_two in
          product.means v s ∙ ap₂ (λ k m. k * m % 2 ^ n) (first.means v at_one) (second.means v at_two);
    }

pub MakesLiteral-size_product : (n0 n1 n2 n3 : Net) (n : ℕ) (p q : List ℕ) (l : ℕ) (f h : Valuation → ℕ) → MakesWord n0 n1 (12 * n) n f p → MakesWord n1 n2 (12 * n) n h q
    → MakesLiteral n2 n3 (12 * (length p * length p)) (λ v. nat_le (2 ^ length p) (word_value v p * word_value v q)) l → MakesLiteral n0 n3 (12 * (n * n) + 24 * n) (λ v. nat_le (2 ^ n) (f v * h v)) l
MakesLiteral-size_product n0 n1 n2 n3 n p q l f h first second makes =
    let lost : MakesLiteral n2 n3 (12 * (n * n)) (λ v. nat_le (2 ^ n) (word_value v p * word_value v q)) l = subst (λ (k : ℕ). MakesLiteral n2 n3 (12 * (k * k)) (λ v. nat_le (2 ^ k) (word_value v p * word_value v q)) l) first.wide makes in
    record {
      grows = Grows-weaker n0 n3 (12 * n + (12 * n + 12 * (n * n))) (12 * (n * n) + 24 * n) (omega arith)
          (Grows-trans n0 n1 n3 (12 * n) (12 * n + 12 * (n * n)) first.grows (Grows-trans n1 n2 n3 (12 * n) (12 * (n * n)) second.grows lost.grows));
      defined = lost.defined;
      means = λ v s.
          let at_two = Satisfies-earlier n2 n3 (12 * (n * n)) lost.grows v s in
          let at_one = Satisfies-earlier n1 n2 (12 * n) second.grows v at_two in
          lost.means v s ∙ ap₂ (λ k m. nat_le (2 ^ n) (k * m)) (first.means v at_one) (second.means v at_two);
    }

-- the gates of a product of sizes and of what it tells fit
pub few_enough : (n : ℕ) → 1 ≤ n → 12 * (n * n) + 24 * n + (3 + (n + 1 + 1)) ≤ 40 * (n * n) + 4 * n
few_enough n some = let square : 1 * n ≤ n * n = mul-le 1 n n n some (omega arith) in omega (arith, square)

pub MakesWord-smulo : (n0 n1 n2 n3 n4 : Net) (a b bits : List ℕ) (x y lost negative above l : ℕ) → 1 ≤ length a → length b ≡ length a → x ≡ get_or a (length a - 1) x → y ≡ get_or b (length a - 1) y
    → MakesWord n0 n1 (12 * (length a * length a) + 24 * length a) (length a) (λ v. unsigned_abs (signed (length a) (word_value v a)) * unsigned_abs (signed (length a) (word_value v b)) % 2 ^ length a) bits
    → MakesLiteral n0 n1 (12 * (length a * length a) + 24 * length a) (λ v. nat_le (2 ^ length a) (unsigned_abs (signed (length a) (word_value v a)) * unsigned_abs (signed (length a) (word_value v b)))) lost
    → MakesLiteral n1 n2 3 (λ v. differ (literal_value v x) (literal_value v y)) negative
    → MakesLiteral n2 n3 (length bits + 1) (λ v. overflows (length bits) (with_sign (literal_value v negative) (word_value v bits))) above
    → MakesLiteral n3 n4 1 (λ v. literal_value v lost || literal_value v above) l
    → MakesWord n0 n4 (40 * (length a * length a) + 4 * length a) 1 (λ v. binary_value binary.Smulo (length a) (word_value v a) (word_value v b)) (l ∷ [])
MakesWord-smulo n0 n1 n2 n3 n4 a b bits x y lost negative above l some same x_is y_is product is_lost signs top either =
    let n = length a in
    let far : MakesLiteral n2 n3 (n + 1) (λ v. overflows n (with_sign (literal_value v negative) (word_value v bits))) above =
    subst (λ (k : ℕ). MakesLiteral n2 n3 (k + 1) (λ v. overflows k (with_sign (literal_value v negative) (word_value v bits))) above) product.wide top
    in
    let m = 12 * (n * n) + 24 * n in
    MakesWord-test n0 n4 (m + (3 + (n + 1 + 1))) (40 * (n * n) + 4 * n) (λ v. overflows n (signed n (word_value v a) *ℤ signed n (word_value v b))) _ l (few_enough n some)
    (record {
      grows = Grows-trans n0 n1 n4 m (3 + (n + 1 + 1)) product.grows (Grows-trans n1 n2 n4 3 (n + 1 + 1) signs.grows (Grows-trans n2 n3 n4 (n + 1) 1 far.grows either.grows));
      defined = either.defined;
      means = λ v s.
          let at_three = Satisfies-earlier n3 n4 1 either.grows v s in
          let at_two = Satisfies-earlier n2 n3 (n + 1) far.grows v at_three in
          let at_one = Satisfies-earlier n1 n2 3 signs.grows v at_two in
          let y_of = signed n (word_value v a) in
          let z_of = signed n (word_value v b) in
          let whole = unsigned_abs y_of * unsigned_abs z_of in
          let of_a : is_negative y_of ≡ literal_value v x = sign_is n (word_value v a) (literal_value v x) (word_value-below v a n refl) (sign-zero v a n x some refl x_is) (sign-one v a n x some refl x_is) in
          let of_b : is_negative z_of ≡ literal_value v y = sign_is n (word_value v b) (literal_value v y) (word_value-below v b n same) (sign-zero v b n y some same y_is) (sign-one v b n y some same y_is) in
          let number : y_of *ℤ z_of ≡ with_sign (literal_value v negative) whole = product_signs y_of z_of ∙ ap (λ (t : Bool). with_sign t whole) (ap₂ differ of_a of_b ∙ sym (signs.means v at_two)) in
          either.means v s
          ∙ ap₂ ◌||◌ (is_lost.means v at_one) (far.means v at_three ∙ ap (λ w. overflows n (with_sign (literal_value v negative) w)) (product.means v at_one))
          ∙ product_overflows n whole (literal_value v negative) some
          ∙ ap (overflows n) (sym number);
    })
    (λ v. refl)
