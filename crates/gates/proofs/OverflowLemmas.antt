-- The overflow tests, and the gates that tell them.
use Rattle.std.proofs.Common.{◌≡◌, ℕ, suc, ◌+◌, ◌-◌, ◌*◌, ◌^◌, ◌<◌, ◌≤◌, ◌⊎◌, inl, inr, Bool, true, false, not, ◌&&◌, ◌==◌, nat_lt, nat_le, List, [], ◌∷◌, length, map, take, get_or, ℤ, pos, ◌+ℤ◌, ◌-ℤ◌, refl, sym, ap, ap₂, ◌∙◌, arith}
use Rattle.std.proofs.lemmas.Bool.Decides.{nat_tests}
use Rattle.std.proofs.lemmas.Int.{ints}
use Rattle.std.proofs.lemmas.List.{length-map}
use borrow.Author.Differences.{up, down}
use Rattle.base.specs.declared.operators.Binary.TheVariants as binary
use Rattle.base.specs.Word.{bit_number}
use Rattle.base.specs.Operator.{ones, binary_value}
use Rattle.base.specs.Signed.{signed, overflows}
use Rattle.base.proofs.SignedLaws.{half, signed_is, overflows_in, overflows_out}
use Rattle.base.specs.Literal.{Valuation, literal_value, negation}
use Rattle.aiger.specs.Net.{Net}
use Rattle.gates.specs.Connect.{differ}
use Rattle.gates.specs.Made.{MakesAnd, MakesLiteral, MakesWord, word_value}
use Rattle.gates.specs.Sums.{literal_number}
use Rattle.gates.specs.Tests.{with_top_negated}
use Rattle.gates.proofs.GrowthLemmas.{Grows-trans, Satisfies-earlier, word_value-negation}
use Rattle.gates.proofs.BitListLemmas.{word_value-below}
use Rattle.gates.proofs.OrderLemmas.{signed_top, front_below, word_value-top, word_value-top_negated, length-top_negated, MakesWord-test}

-- a number above all signed numbers of a width or below all overflows
pub overflows_far : (n : ℕ) (z : ℤ) (t : Bool) → overflows n z ≡ t → (up z + 2 ^ (n - 1) < down z) ⊎ (down z + 2 ^ (n - 1) ≤ up z) → t ≡ true
overflows_far n z true e far = refl
overflows_far n z false e far = let near = overflows_out n z e in absurd (omega (arith, far, near))

-- a sum of signed numbers by the sum m of the words without their highest bits, q being what these bits take off: it overflows where the carries differ
pub carries_differ : (n m q s : ℕ) (t o : Bool) → (q ≡ 0) ⊎ ((q ≡ 2 ^ (n - 1)) ⊎ (q ≡ 2 * 2 ^ (n - 1)))
    → s < 2 * 2 ^ (n - 1) → s + 2 * 2 ^ (n - 1) * bit_number o ≡ m + q → bit_number t * 2 ^ (n - 1) ≤ m → m < bit_number t * 2 ^ (n - 1) + 2 ^ (n - 1)
    → overflows n (pos m -ℤ pos q) ≡ differ t o
carries_differ n m q s true true taken below whole least most = overflows_in n (pos m -ℤ pos q) (omega (arith, ints, taken)) (omega (arith, ints, taken))
carries_differ n m q s false false taken below whole least most = overflows_in n (pos m -ℤ pos q) (omega (arith, ints, taken)) (omega (arith, ints, taken))
carries_differ n m q s true false taken below whole least most = overflows_far n (pos m -ℤ pos q) _ refl (inr (omega (arith, ints, taken)))
carries_differ n m q s false true taken below whole least most = overflows_far n (pos m -ℤ pos q) _ refl (inl (omega (arith, ints, taken)))

-- the highest bits of two words take off nothing, half of the words or all of them
pub taken_off : (p : ℕ) (x y : Bool) → (p * (bit_number x + bit_number y) ≡ 0) ⊎ ((p * (bit_number x + bit_number y) ≡ p) ⊎ (p * (bit_number x + bit_number y) ≡ 2 * p))
taken_off p true true = inr (inr (omega arith))
taken_off p true false = inr (inl (omega arith))
taken_off p false true = inr (inl (omega arith))
taken_off p false false = inl (omega arith)

-- so the sum of two signed numbers and a carry
pub signed_sum : (n a b c : ℕ) (x y : Bool) → 1 ≤ n → a < 2 ^ (n - 1) → b < 2 ^ (n - 1)
    → signed n (a + 2 ^ (n - 1) * bit_number x) +ℤ signed n (b + 2 ^ (n - 1) * bit_number y) +ℤ pos c ≡ pos (a + b + c) -ℤ pos (2 ^ (n - 1) * (bit_number x + bit_number y))
signed_sum n a b c x y h a_below b_below = rw (signed_top n a x h a_below, signed_top n b y h b_below) (omega (arith, ints))

pub MakesWord-saddo : (old new : Net) (a b : List ℕ) (l : ℕ)
    → MakesLiteral old new (12 * length a) (λ v. overflows (length a) (signed (length a) (word_value v a) +ℤ signed (length a) (word_value v b) +ℤ pos (literal_number v 0))) l
    → MakesWord old new (12 * length a) 1 (λ v. binary_value binary.Saddo (length a) (word_value v a) (word_value v b)) (l ∷ [])
MakesWord-saddo old new a b l makes =
    MakesWord-test old new (12 * length a) (12 * length a) _ _ l (omega arith) makes (λ v. ap (λ z. bit_number (overflows (length a) z)) (omega (arith, ints)))

-- the signed number of a negated word
signed_not : (n x : ℕ) → 1 ≤ n → x < 2 ^ n → signed n (2 ^ n - 1 - x) +ℤ pos 1 ≡ pos 0 -ℤ signed n x
signed_not n x h below = omega (arith, ints, half n h, signed_is n x h below, signed_is n (2 ^ n - 1 - x) h (omega arith))

pub MakesWord-ssubo : (old new : Net) (a b negated : List ℕ) (l : ℕ) → 1 ≤ length a → length b ≡ length a → negated ≡ map negation b
    → MakesLiteral old new (12 * length a) (λ v. overflows (length a) (signed (length a) (word_value v a) +ℤ signed (length a) (word_value v negated) +ℤ pos (literal_number v 1))) l
    → MakesWord old new (12 * length a) 1 (λ v. binary_value binary.Ssubo (length a) (word_value v a) (word_value v b)) (l ∷ [])
MakesWord-ssubo old new a b negated l some same is makes =
    MakesWord-test old new (12 * length a) (12 * length a) _ _ l (omega arith) makes
    (λ v.
    let below : word_value v b < 2 ^ length a = word_value-below v b (length a) same in
    let opposite : signed (length a) (word_value v negated) +ℤ pos 1 ≡ pos 0 -ℤ signed (length a) (word_value v b) = rw (is, word_value-negation v b, same) (signed_not (length a) (word_value v b) some below) in
    ap (λ z. bit_number (overflows (length a) z)) (omega (arith, ints, opposite)))

-- a sum is no word where the second word is above what the first leaves up to the greatest
above_rest : (p a b : ℕ) → a < p → nat_lt (p - 1 - a) b ≡ nat_le p (a + b)
above_rest p a b below = grind (arith, nat_tests)

pub MakesWord-uaddo : (old new : Net) (a negated b : List ℕ) (l : ℕ) → negated ≡ map negation a
    → MakesLiteral old new (6 * length negated) (λ v. nat_lt (word_value v negated) (word_value v b)) l
    → MakesWord old new (9 * length a) 1 (λ v. binary_value binary.Uaddo (length a) (word_value v a) (word_value v b)) (l ∷ [])
MakesWord-uaddo old new a negated b l is makes =
    let same : length negated ≡ length a = rw is (length-map a negation) in
    MakesWord-test old new (6 * length negated) (9 * length a) (λ v. nat_lt (word_value v negated) (word_value v b)) _ l (omega (arith, same)) makes
    (λ v. ap bit_number (rw (is, word_value-negation v a) (above_rest (2 ^ length a) (word_value v a) (word_value v b) (word_value-below v a (length a) refl))))

pub MakesWord-usubo : (old new : Net) (a b : List ℕ) (l : ℕ) → MakesLiteral old new (6 * length a) (λ v. nat_lt (word_value v a) (word_value v b)) l
    → MakesWord old new (9 * length a) 1 (λ v. binary_value binary.Usubo (length a) (word_value v a) (word_value v b)) (l ∷ [])
MakesWord-usubo old new a b l makes =
    MakesWord-test old new (6 * length a) (9 * length a) (λ v. nat_lt (word_value v a) (word_value v b)) _ l (omega arith) makes (λ v. refl)

-- a word is the least signed number where its bits negated, but for the highest one, are all ones
least_is : (p low x : ℕ) (top : Bool) → low < p → x < 2 * p → low + p * bit_number top ≡ 2 * p - 1 - x → (low + p * bit_number (not top) == 2 * p - 1) ≡ (x == p)
least_is p low x true low_below below is = grind (arith, nat_tests)
least_is p low x false low_below below is = grind (arith, nat_tests)

is_least : (v : Valuation) (a : List ℕ) → 1 ≤ length a → (word_value v (with_top_negated (map negation a)) == ones (length a)) ≡ (word_value v a == 2 ^ (length a - 1))
is_least v a some =
    let k = length a - 1 in
    let wide : suc k ≡ length (map negation a) = omega (arith, length-map a negation) in
    let all = half (length a) some in
    let below : word_value v a < 2 * 2 ^ k = rw (← all) (word_value-below v a (length a) refl) in
    let reads : word_value v (take k (map negation a)) + 2 ^ k * literal_number v (get_or (map negation a) k 0) ≡ 2 * 2 ^ k - 1 - word_value v a =
    sym (word_value-top v (map negation a) k wide) ∙ word_value-negation v a ∙ ap (λ n. n - 1 - word_value v a) all in
    rw (word_value-top_negated v (map negation a) k wide, all)
    (least_is (2 ^ k) (word_value v (take k (map negation a))) (word_value v a) (literal_value v (get_or (map negation a) k 0)) (front_below v (map negation a) k (omega (arith, wide))) below reads)

pub MakesWord-sdivo : (n0 n1 n2 n3 : Net) (a b as_least : List ℕ) (least minus_one l : ℕ) → 1 ≤ length a → length b ≡ length a → as_least ≡ with_top_negated (map negation a)
    → MakesLiteral n0 n1 (length as_least) (λ v. word_value v as_least == ones (length as_least)) least → MakesLiteral n1 n2 (length b) (λ v. word_value v b == ones (length b)) minus_one
    → MakesAnd n2 n3 least minus_one l
    → MakesWord n0 n3 (3 * length a) 1 (λ v. binary_value binary.Sdivo (length a) (word_value v a) (word_value v b)) (l ∷ [])
MakesWord-sdivo n0 n1 n2 n3 a b as_least least minus_one l some same as_least_is first second third =
    let wide : length as_least ≡ length a = rw as_least_is (length-top_negated (map negation a) (omega (arith, length-map a negation)) ∙ length-map a negation) in
    MakesWord-test n0 n3 (length as_least + (length b + 1)) (3 * length a) (λ v. (word_value v a == 2 ^ (length a - 1)) && (word_value v b == ones (length a))) _ l (omega (arith, wide))
    (record {
      grows = Grows-trans n0 n1 n3 (length as_least) (length b + 1) first.grows (Grows-trans n1 n2 n3 (length b) 1 second.grows third.grows);
      defined = third.defined;
      means = λ v s.
          let at_two = Satisfies-earlier n2 n3 1 third.grows v s in
          let at_one = Satisfies-earlier n1 n2 (length b) second.grows v at_two in
          let by_least : literal_value v least ≡ (word_value v a == 2 ^ (length a - 1)) = first.means v at_one ∙ rw (wide, as_least_is) (is_least v a some) in
          let by_minus_one : literal_value v minus_one ≡ (word_value v b == ones (length a)) = second.means v at_two ∙ rw same refl in
          third.means v s ∙ ap₂ ◌&&◌ by_least by_minus_one;
    })
    (λ v. refl)
