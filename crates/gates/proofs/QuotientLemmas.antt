-- Quotients and remainders of numbers that are one bit longer, and the gates that make them.
use Rattle.std.proofs.Common.{◌≡◌, ℕ, zero, suc, ◌+◌, ◌-◌, ◌*◌, ◌/◌, ◌^◌, ◌<◌, ◌≤◌, Bool, true, false, not, ◌&&◌, ◌||◌, ◌==◌, nat_le, if◌then◌else◌, List, [], ◌∷◌, length, map, take, drop, refl, sym, ap, ap₂, ◌∙◌, arith}
use Rattle.std.proofs.Math.Nat.{mod-eq-sub-mul-div, mod-lt, zero-div}
use Rattle.std.proofs.lemmas.Nat.{div-mul-add, pow_pos}
use Rattle.std.proofs.lemmas.Bool.{cond-false, ne_eqb}
use Rattle.std.proofs.lemmas.Bool.Decides.{nat_tests}
use Rattle.std.proofs.lemmas.List.{length-take-le}
use Rattle.std.proofs.lemmas.List.Elements.{All-nil, All-cons}
use Rattle.base.specs.Word.{bit_number}
use Rattle.base.specs.Operator.{udiv, urem}
use Rattle.base.proofs.BitLemmas.{bit_number_small, two_more}
use Rattle.base.specs.Literal.{Valuation, literal_value, negation}
use Rattle.aiger.specs.Net.{Net, IsDefined, Satisfies}
use Rattle.base.proofs.LiteralLemmas.{literal_value-negation}
use Rattle.aiger.proofs.NetLemmas.{IsDefined-false}
use Rattle.gates.specs.Made.{MakesAnd, MakesLiteral, MakesWord, word_value}
use Rattle.gates.specs.Sums.{literal_number, MakesSum}
use Rattle.gates.specs.Division.{reduced, MakesQuotientRow, MakesDivision}
use Rattle.gates.proofs.GrowthLemmas.{Grows-refl, Grows-weaker, Grows-trans, Satisfies-earlier, IsDefined-grown, All-defined-grown, word_value-negation}
use Rattle.gates.proofs.BitListLemmas.{word_value-below}
use Rattle.gates.proofs.WindowLemmas.{word_value-split}

-- the quotient and the remainder are those of which the number is made
quotient_is : (a d q r : ℕ) → r < d → a ≡ q * d + r → a / d ≡ q
quotient_is a d q r below is = ap (λ k. k / d) is ∙ div-mul-add q d r below

remainder_is : (a d q r : ℕ) → r < d → a ≡ q * d + r → a - d * (a / d) ≡ r
remainder_is a d q r below is = ap (λ k. a - d * k) (quotient_is a d q r below is) ∙ omega (arith, is)

-- the remainder is below the divisor
remainder_below : (a b : ℕ) → a - suc b * (a / suc b) < suc b
remainder_below a b = rw (← mod-eq-sub-mul-div a (suc b)) (mod-lt a (omega arith))

-- the number with a bit more at its low end is made of the quotient with the row's bit at its low end, and of what the row leaves
row_whole : (t d q r : ℕ) (x : Bool) → t ≡ q * d + r → bit_number x + 2 * t ≡ (bit_number (nat_le d (bit_number x + 2 * r)) + 2 * q) * d + reduced (bit_number x + 2 * r) d
row_whole t d q r x is = by_test (nat_le d (bit_number x + 2 * r)) refl
  where
    by_test : (goes : Bool) → nat_le d (bit_number x + 2 * r) ≡ goes → bit_number x + 2 * t ≡ (bit_number goes + 2 * q) * d + (if goes then bit_number x + 2 * r - d else bit_number x + 2 * r)
    by_test true e = grind (arith, nat_tests)
    by_test false e = omega (arith, is)

row_below : (d r : ℕ) (x : Bool) → r < d → reduced (bit_number x + 2 * r) d < d
row_below d r x below = by_test (nat_le d (bit_number x + 2 * r)) refl
  where
    by_test : (goes : Bool) → nat_le d (bit_number x + 2 * r) ≡ goes → (if goes then bit_number x + 2 * r - d else bit_number x + 2 * r) < d
    by_test true e = omega (arith, bit_number_small x, below)
    by_test false e = grind (arith, nat_tests)

-- division by a number that is not 0
udiv_by : (n a b : ℕ) → udiv n a (suc b) ≡ a / suc b
udiv_by n a b = cond-false (suc b == 0) _ _ (ne_eqb (suc b) 0 (λ is. absurd (omega arith)))

urem_by : (a b : ℕ) → urem a (suc b) ≡ a - suc b * (a / suc b)
urem_by a b = cond-false (suc b == 0) _ _ (ne_eqb (suc b) 0 (λ is. absurd (omega arith)))

-- zero goes into each number
goes_zero : (a : ℕ) → nat_le 0 a ≡ true
goes_zero a = grind (arith, nat_tests)

-- a division's quotient and remainder give those of the dividend with a bit more at its low end
quotient_more : (k t b : ℕ) (x : Bool) → udiv (suc k) (bit_number x + 2 * t) b ≡ bit_number (nat_le b (bit_number x + 2 * urem t b)) + 2 * udiv k t b
quotient_more k t zero x = rw (goes_zero (bit_number x + 2 * urem t 0)) (omega (arith, two_more k, pow_pos k))
quotient_more k t (suc b) x =
    let below = remainder_below t b in
    rw (udiv_by (suc k) (bit_number x + 2 * t) b, udiv_by k t b, urem_by t b)
    (quotient_is _ (suc b) _ _ (row_below (suc b) _ x below) (row_whole t (suc b) (t / suc b) (t - suc b * (t / suc b)) x (omega (arith, below))))

remainder_more : (t b : ℕ) (x : Bool) → urem (bit_number x + 2 * t) b ≡ reduced (bit_number x + 2 * urem t b) b
remainder_more t zero x = rw (goes_zero (bit_number x + 2 * urem t 0)) (omega arith)
remainder_more t (suc b) x =
    let left = remainder_below t b in
    rw (urem_by (bit_number x + 2 * t) b, urem_by t b)
    (remainder_is _ (suc b) _ _ (row_below (suc b) _ x left) (row_whole t (suc b) (t / suc b) (t - suc b * (t / suc b)) x (omega (arith, left))))

-- a divisor's low part l taken from a number as a sum, h being what is above: the divisor goes into the number where nothing is above and the
-- carry out is 1, and then the sum is what is left
goes_by_carry : (p d l h s : ℕ) (out : Bool) → s < p → d < p → l < p → s + p * bit_number out ≡ d + (p - 1 - l) + 1 → (out && not (not (h == 0))) ≡ nat_le (l + p * h) d
goes_by_carry p d l zero s true s_below d_below l_below whole = grind (arith, nat_tests)
goes_by_carry p d l zero s false s_below d_below l_below whole = grind (arith, nat_tests)
goes_by_carry p d l (suc h) s true s_below d_below l_below whole = let more : p * suc h ≡ p + p * h = omega arith in grind (arith, nat_tests)
goes_by_carry p d l (suc h) s false s_below d_below l_below whole = let more : p * suc h ≡ p + p * h = omega arith in grind (arith, nat_tests)

left_by_carry : (p d l h s : ℕ) (out : Bool) → s < p → d < p → l < p → s + p * bit_number out ≡ d + (p - 1 - l) + 1 → (if out && not (not (h == 0)) then s else d) ≡ reduced d (l + p * h)
left_by_carry p d l zero s true s_below d_below l_below whole = grind (arith, nat_tests)
left_by_carry p d l zero s false s_below d_below l_below whole = grind (arith, nat_tests)
left_by_carry p d l (suc h) s true s_below d_below l_below whole = let more : p * suc h ≡ p + p * h = omega arith in grind (arith, nat_tests)
left_by_carry p d l (suc h) s false s_below d_below l_below whole = let more : p * suc h ≡ p + p * h = omega arith in grind (arith, nat_tests)

-- no bit from a place on yet, and one place more
pub MakesLiteral-no_bit : (n : Net) → MakesLiteral n n 0 (λ v. not (word_value v [] == 0)) 0
MakesLiteral-no_bit n = record { grows = Grows-refl n 0; defined = IsDefined-false n; means = λ v s. refl }

pub MakesLiteral-bit_more : (old mid new : Net) (most all : ℕ) (ls : List ℕ) (x some l : ℕ) → most + 1 ≡ all
    → MakesLiteral old mid most (λ v. not (word_value v ls == 0)) some → MakesLiteral mid new 1 (λ v. literal_value v some || literal_value v x) l
    → MakesLiteral old new all (λ v. not (word_value v (x ∷ ls) == 0)) l
MakesLiteral-bit_more old mid new most all ls x some l all_is so_far more =
    record {
      grows = Grows-weaker old new (most + 1) all (omega arith) (Grows-trans old mid new most 1 so_far.grows more.grows);
      defined = more.defined;
      means = λ v s. more.means v s ∙ (ap (λ y. y || literal_value v x) (so_far.means v (Satisfies-earlier mid new 1 more.grows v s)) ∙ one_more (word_value v ls) (literal_value v x));
    }
  where
    one_more : (w : ℕ) (y : Bool) → (not (w == 0) || y) ≡ not (bit_number y + 2 * w == 0)
    one_more w true = grind (arith, nat_tests)
    one_more w false = grind (arith, nat_tests)

-- the gates of a row: the divisor's low part taken from the dividend, whether it has a bit above, and a choice by both
pub MakesQuotientRow-by_carry : (n0 n1 n2 n3 n4 : Net) (dividend b low sum : List ℕ) (into_top out above bit : ℕ) (remainder : List ℕ)
    → length dividend ≤ length b → low ≡ take (length dividend) b → MakesSum n0 n1 (9 * length dividend) dividend (map negation low) 1 sum into_top out
    → MakesLiteral n1 n2 (length b - length dividend) (λ v. not (word_value v (drop (length dividend) b) == 0)) above → MakesAnd n2 n3 out (negation above) bit
    → MakesWord n3 n4 (3 * length sum) (length sum) (λ v. if literal_value v bit then word_value v sum else word_value v dividend) remainder
    → MakesQuotientRow n0 n4 (12 * length b + 9) dividend b bit remainder
MakesQuotientRow-by_carry n0 n1 n2 n3 n4 dividend b low sum into_top out above bit remainder inside low_is taken high goes chosen =
    let n = length dividend in
    let low_wide : length low ≡ n = ap length low_is ∙ length-take-le n b inside in
    let to_three = Grows-trans n0 n2 n3 (9 * n + (length b - n)) 1 (Grows-trans n0 n1 n2 (9 * n) (length b - n) taken.grows high.grows) goes.grows in
    let whole : (v : Valuation) → Satisfies n1 v → word_value v sum + 2 ^ n * literal_number v out ≡ word_value v dividend + (2 ^ n - 1 - word_value v low) + 1 =
    λ v s. rw (word_value-negation v low, low_wide) at (taken.whole v s) in
    let sum_below : (v : Valuation) → word_value v sum < 2 ^ n = λ v. word_value-below v sum n taken.wide in
    let low_below : (v : Valuation) → word_value v low < 2 ^ n = λ v. word_value-below v low n low_wide in
    let divisor : (v : Valuation) → word_value v b ≡ word_value v low + 2 ^ n * word_value v (drop n b) = λ v. let split = word_value-split v b n inside in rw low_is (omega (arith, split)) in
    let bit_is : (v : Valuation) → Satisfies n3 v → literal_value v bit ≡ (literal_value v out && not (not (word_value v (drop n b) == 0))) =
    λ v s. goes.means v s ∙ ap (λ x. literal_value v out && x) (literal_value-negation v above ∙ ap not (high.means v (Satisfies-earlier n2 n3 1 goes.grows v s))) in
    let first : (v : Valuation) → Satisfies n3 v → Satisfies n1 v = λ v s. Satisfies-earlier n1 n2 (length b - n) high.grows v (Satisfies-earlier n2 n3 1 goes.grows v s) in
    record {
      grows = Grows-weaker n0 n4 (9 * n + (length b - n) + 1 + 3 * length sum) (12 * length b + 9) (omega (arith, taken.wide)) (Grows-trans n0 n3 n4 (9 * n + (length b - n) + 1) (3 * length sum) to_three chosen.grows);
      bit_defined = IsDefined-grown n3 n4 (3 * length sum) chosen.grows bit goes.defined;
      wide = chosen.wide ∙ taken.wide;
      remainder_defined = chosen.defined;
      goes = λ v s.
          let before = Satisfies-earlier n3 n4 (3 * length sum) chosen.grows v s in
          bit_is v before ∙ rw (divisor v) (goes_by_carry (2 ^ n) _ _ (word_value v (drop n b)) _ (literal_value v out) (sum_below v) (word_value-below v dividend n refl) (low_below v) (whole v (first v before)));
      left = λ v s.
          let before = Satisfies-earlier n3 n4 (3 * length sum) chosen.grows v s in
          chosen.means v s
          ∙ ap (λ x. if x then word_value v sum else word_value v dividend) (bit_is v before)
          ∙ rw (divisor v) (left_by_carry (2 ^ n) _ _ (word_value v (drop n b)) _ (literal_value v out) (sum_below v) (word_value-below v dividend n refl) (low_below v) (whole v (first v before)));
    }

-- no row is made yet
pub MakesDivision-start : (n : Net) (b : List ℕ) → MakesDivision n n 0 [] b [] []
MakesDivision-start n b =
    record {
      grows = Grows-refl n 0;
      quotient_wide = refl;
      remainder_wide = refl;
      quotient_defined = All-nil (IsDefined n);
      remainder_defined = All-nil (IsDefined n);
      quotient_means = λ v s. no_quotient (word_value v b);
      remainder_means = λ v s. no_remainder (word_value v b);
    }
  where
    no_quotient : (b : ℕ) → 0 ≡ udiv 0 0 b
    no_quotient zero = refl
    no_quotient (suc b) = sym (udiv_by 0 0 b ∙ zero-div (suc b))

    no_remainder : (b : ℕ) → 0 ≡ urem 0 b
    no_remainder zero = refl
    no_remainder (suc b) = rw (urem_by 0 b) (omega arith)

-- a row more
pub MakesDivision-step : (old mid new : Net) (most more all : ℕ) (a b quotient remainder : List ℕ) (next bit : ℕ) (left : List ℕ)
    → most + more ≤ all → MakesDivision old mid most a b quotient remainder → MakesQuotientRow mid new more (next ∷ remainder) b bit left
    → MakesDivision old new all (next ∷ a) b (bit ∷ quotient) left
MakesDivision-step old mid new most more all a b quotient remainder next bit left le so_far row =
    record {
      grows = Grows-weaker old new (most + more) all le (Grows-trans old mid new most more so_far.grows row.grows);
      quotient_wide = ap suc so_far.quotient_wide;
      remainder_wide = row.wide ∙ ap suc so_far.remainder_wide;
      quotient_defined = All-cons (IsDefined new) bit quotient row.bit_defined (All-defined-grown mid new more row.grows quotient so_far.quotient_defined);
      remainder_defined = row.remainder_defined;
      quotient_means = λ v s.
          let before = Satisfies-earlier mid new more row.grows v s in
          ap₂ (λ x q. bit_number x + 2 * q) (row.goes v s ∙ ap (λ r. nat_le (word_value v b) (literal_number v next + 2 * r)) (so_far.remainder_means v before)) (so_far.quotient_means v before)
          ∙ sym (quotient_more (length a) (word_value v a) (word_value v b) (literal_value v next));
      remainder_means = λ v s.
          let before = Satisfies-earlier mid new more row.grows v s in
          row.left v s ∙ ap (λ r. reduced (literal_number v next + 2 * r) (word_value v b)) (so_far.remainder_means v before)
          ∙ sym (remainder_more (word_value v a) (word_value v b) (literal_value v next));
    }

-- within a greater bound
pub MakesDivision-weaker : (old new : Net) (few most : ℕ) (a b quotient remainder : List ℕ) → few ≤ most → MakesDivision old new few a b quotient remainder → MakesDivision old new most a b quotient remainder
MakesDivision-weaker old new few most a b quotient remainder le m = record {
  grows = Grows-weaker old new few most le m.grows;
  quotient_wide = m.quotient_wide;
  remainder_wide = m.remainder_wide;
  quotient_defined = m.quotient_defined;
  remainder_defined = m.remainder_defined;
  quotient_means = m.quotient_means;
  remainder_means = m.remainder_means;
}
