-- Carries of a sum without its bits, and the gates that tell them.
use Rattle.std.proofs.Common.{◌≡◌, ℕ, ◌+◌, ◌-◌, ◌*◌, ◌^◌, ◌<◌, ◌≤◌, Bool, true, false, not, nat_lt, nat_le, List, [], ◌∷◌, ◌++◌, length, take, get_or, pos, ◌+ℤ◌, refl, sym, ap, ap₂, ◌∙◌, arith}
use Rattle.std.proofs.lemmas.Bool.Decides.{nat_tests}
use Rattle.std.proofs.lemmas.List.{take_all}
use Rattle.base.specs.Word.{bit_number}
use Rattle.base.specs.Signed.{signed, overflows}
use Rattle.base.proofs.SignedLaws.{half}
use Rattle.base.proofs.BitLemmas.{bit_number_small}
use Rattle.base.specs.Literal.{literal_value, negation}
use Rattle.aiger.specs.Net.{Net, IsDefined}
use Rattle.base.proofs.LiteralLemmas.{literal_value-negation}
use Rattle.gates.specs.Connect.{differ}
use Rattle.gates.specs.Made.{MakesLiteral, word_value}
use Rattle.gates.specs.Sums.{literal_number}
use Rattle.gates.proofs.GrowthLemmas.{Grows-refl, Grows-weaker, Grows-trans, Satisfies-earlier}
use Rattle.gates.proofs.BitListLemmas.{word_value-below}
use Rattle.gates.proofs.SumLemmas.{word_value-push}
use Rattle.gates.proofs.OrderLemmas.{front_below, word_value-top}
use Rattle.gates.proofs.OverflowLemmas.{carries_differ, taken_off, signed_sum}

-- a column more: its bits and the carry into it give a carry where the negation of one is less than the other and the carry
carry_more : (p a b c : ℕ) (x y : Bool) → a < p → b < p → c ≤ 1
    → nat_lt (bit_number (not x)) (bit_number y + bit_number (nat_le p (a + b + c))) ≡ nat_le (2 * p) (a + p * bit_number x + (b + p * bit_number y) + c)
carry_more p a b c true true a_below b_below small = grind (arith, nat_tests)
carry_more p a b c true false a_below b_below small = grind (arith, nat_tests)
carry_more p a b c false true a_below b_below small = grind (arith, nat_tests)
carry_more p a b c false false a_below b_below small = grind (arith, nat_tests)

-- no column carries what comes into it
pub MakesLiteral-carried : (n : Net) (carry : ℕ) → IsDefined n carry → MakesLiteral n n 0 (λ v. nat_le 1 (word_value v [] + word_value v [] + literal_number v carry)) carry
MakesLiteral-carried n carry defined = record { grows = Grows-refl n 0; defined = defined; means = λ v s. by (literal_value v carry) }
  where
    by : (x : Bool) → x ≡ nat_le 1 (0 + 0 + bit_number x)
    by true = refl
    by false = refl

pub MakesLiteral-carry_step : (old mid new : Net) (i most all : ℕ) (a b : List ℕ) (x y not_x carry out l : ℕ) → length a ≡ i → length b ≡ i → most + 4 ≡ all → not_x ≡ negation x
    → MakesLiteral old mid most (λ v. nat_le (2 ^ i) (word_value v a + word_value v b + literal_number v carry)) out
    → MakesLiteral mid new 4 (λ v. nat_lt (literal_number v not_x) (literal_number v y + literal_number v out)) l
    → MakesLiteral old new all (λ v. nat_le (2 ^ (i + 1)) (word_value v (a ++ x ∷ []) + word_value v (b ++ y ∷ []) + literal_number v carry)) l
MakesLiteral-carry_step old mid new i most all a b x y not_x carry out l of_a of_b all_is not_is so_far column =
    record {
      grows = Grows-weaker old new (most + 4) all (omega arith) (Grows-trans old mid new most 4 so_far.grows column.grows);
      defined = column.defined;
      means = λ v s.
          let before = so_far.means v (Satisfies-earlier mid new 4 column.grows v s) in
          let back : i + 1 - 1 ≡ i = omega arith in
          let double : 2 ^ (i + 1) ≡ 2 * 2 ^ i = half (i + 1) (omega arith) ∙ ap (λ k. 2 * 2 ^ k) back in
          let in_a : word_value v (a ++ x ∷ []) ≡ word_value v a + 2 ^ i * literal_number v x = word_value-push v a x ∙ ap (λ k. word_value v a + 2 ^ k * literal_number v x) of_a in
          let in_b : word_value v (b ++ y ∷ []) ≡ word_value v b + 2 ^ i * literal_number v y = word_value-push v b y ∙ ap (λ k. word_value v b + 2 ^ k * literal_number v y) of_b in
          rw (column.means v s, before, not_is, literal_value-negation v x, in_a, in_b, double)
          (carry_more (2 ^ i) (word_value v a) (word_value v b) (literal_number v carry) (literal_value v x) (literal_value v y) (word_value-below v a i of_a) (word_value-below v b i of_b)
          (omega (arith, bit_number_small (literal_value v carry))));
    }

-- what a carry says of a sum
carry_bounds : (p m : ℕ) → m < 2 * p → (bit_number (nat_le p m) * p ≤ m) × (m < bit_number (nat_le p m) * p + p)
carry_bounds p m below = by (nat_le p m) refl
  where
    by : (t : Bool) → nat_le p m ≡ t → (bit_number t * p ≤ m) × (m < bit_number t * p + p)
    by true e = let least : p ≤ m = grind (arith, nat_tests) in (omega arith, omega arith)
    by false e = let most : m < p = grind (arith, nat_tests) in (omega arith, omega arith)

-- the sum of two signed numbers and a carry overflows where the carries into and out of the highest column differ
sum_overflows : (n a b c : ℕ) (x y : Bool) → 1 ≤ n → a < 2 ^ (n - 1) → b < 2 ^ (n - 1) → c ≤ 1
    → overflows n (signed n (a + 2 ^ (n - 1) * bit_number x) +ℤ signed n (b + 2 ^ (n - 1) * bit_number y) +ℤ pos c)
    ≡ differ (nat_le (2 ^ (n - 1)) (a + b + c)) (nat_le (2 ^ n) (a + 2 ^ (n - 1) * bit_number x + (b + 2 ^ (n - 1) * bit_number y) + c))
sum_overflows n a b c x y h a_below b_below small =
    let p = 2 ^ (n - 1) in
    let q = p * (bit_number x + bit_number y) in
    let taken = taken_off p x y in
    let all = half n h in
    let total_is : a + p * bit_number x + (b + p * bit_number y) + c ≡ a + b + c + q = omega arith in
    let into = carry_bounds p (a + b + c) (omega arith) in
    let out = carry_bounds (2 * p) (a + b + c + q) (omega (arith, taken)) in
    let o = nat_le (2 * p) (a + b + c + q) in
    ap (overflows n) (signed_sum n a b c x y h a_below b_below)
    ∙ carries_differ n (a + b + c) q (a + b + c + q - bit_number o * (2 * p)) (nat_le p (a + b + c)) o taken (omega (arith, out.0, out.1)) (omega (arith, out.0)) into.0 into.1
    ∙ ap₂ (λ m k. differ (nat_le p (a + b + c)) (nat_le m k)) (sym all) (sym total_is)

pub MakesLiteral-sum_overflow : (n0 n1 n2 n3 : Net) (a b : List ℕ) (carry into_top out l : ℕ) → 1 ≤ length a → length b ≡ length a
    → MakesLiteral n0 n1 (4 * (length a - 1)) (λ v. nat_le (2 ^ (length a - 1)) (word_value v (take (length a - 1) a) + word_value v (take (length a - 1) b) + literal_number v carry)) into_top
    → MakesLiteral n1 n2 (4 * length a) (λ v. nat_le (2 ^ length a) (word_value v (take (length a) a) + word_value v (take (length a) b) + literal_number v carry)) out
    → MakesLiteral n2 n3 3 (λ v. differ (literal_value v into_top) (literal_value v out)) l
    → MakesLiteral n0 n3 (12 * length a) (λ v. overflows (length a) (signed (length a) (word_value v a) +ℤ signed (length a) (word_value v b) +ℤ pos (literal_number v carry))) l
MakesLiteral-sum_overflow n0 n1 n2 n3 a b carry into_top out l some same first second third =
    let k = length a - 1 in
    let few : 4 * k + (4 * length a + 3) ≤ 12 * length a = omega arith in
    record {
      grows = Grows-weaker n0 n3 (4 * k + (4 * length a + 3)) (12 * length a) few (Grows-trans n0 n1 n3 (4 * k) (4 * length a + 3) first.grows (Grows-trans n1 n2 n3 (4 * length a) 3 second.grows third.grows));
      defined = third.defined;
      means = λ v s.
          let at_two = Satisfies-earlier n2 n3 3 third.grows v s in
          let at_one = Satisfies-earlier n1 n2 (4 * length a) second.grows v at_two in
          let of_a : word_value v a ≡ word_value v (take k a) + 2 ^ k * literal_number v (get_or a k 0) = word_value-top v a k (omega arith) in
          let of_b : word_value v b ≡ word_value v (take k b) + 2 ^ k * literal_number v (get_or b k 0) = word_value-top v b k (omega arith) in
          let all_a : take (length a) a ≡ a = take_all (length a) a (omega arith) in
          let all_b : take (length a) b ≡ b = take_all (length a) b (omega arith) in
          let outer : literal_value v out ≡ nat_le (2 ^ length a) (word_value v a + word_value v b + literal_number v carry) = second.means v at_two ∙ rw (all_a, all_b) refl in
          third.means v s ∙ ap₂ differ (first.means v at_one) outer
          ∙ rw (of_a, of_b)
          (sym (sum_overflows (length a) (word_value v (take k a)) (word_value v (take k b)) (literal_number v carry) (literal_value v (get_or a k 0)) (literal_value v (get_or b k 0)) some
          (front_below v a k (omega arith)) (front_below v b k (omega arith)) (omega (arith, bit_number_small (literal_value v carry)))));
    }
