-- Sums of bits and of words, and the gates that make them.
use Rattle.std.proofs.Common.{◌≡◌, ℕ, zero, suc, ◌+◌, ◌-◌, ◌*◌, ◌/◌, ◌%◌, ◌^◌, ◌<◌, ◌≤◌, Bool, true, false, not, ◌&&◌, ◌||◌, List, [], ◌∷◌, ◌++◌, length, map, take, get_or, replicate, pos, ◌-ℤ◌, All, refl, sym, ap, ◌∙◌, arith, length-append}
use Rattle.std.proofs.Math.Nat.{add-mul-mod_self_left, mod-eq_of_lt}
use Rattle.std.proofs.lemmas.Nat.{div-mul-add, pow_pos}
use Rattle.std.proofs.lemmas.Int.{ints}
use Rattle.std.proofs.lemmas.List.{length-map, length-replicate, take_all, take_more, map-append}
use Rattle.std.proofs.lemmas.List.Elements.{All-nil, All-push, All-get_or}
use Rattle.base.specs.declared.operators.Unary.TheVariants as unary
use Rattle.base.specs.declared.operators.Binary.TheVariants as binary
use Rattle.base.specs.Operator.{unary_value, binary_value}
use Rattle.base.specs.Signed.{wrapped}
use Rattle.base.proofs.BitLemmas.{two_more, bit_number_small}
use Rattle.base.proofs.WrapLemmas.{wrapped_is}
use Rattle.base.specs.Word.{bit_number, word}
use Rattle.base.specs.Literal.{Valuation, literal_value, negation}
use Rattle.aiger.specs.Net.{Net, IsDefined}
use Rattle.base.proofs.LiteralLemmas.{literal_value-negation}
use Rattle.aiger.proofs.NetLemmas.{IsDefined-negation}
use Rattle.gates.specs.Connect.{differ}
use Rattle.gates.specs.Made.{MakesAnd, MakesLiteral, MakesWord, word_value}
use Rattle.gates.specs.Sums.{literal_number, MakesColumn, MakesSum}
use Rattle.gates.proofs.GrowthLemmas.{Grows-refl, Grows-weaker, Grows-trans, Satisfies-earlier, IsDefined-grown, All-defined-grown, word_value-negation, MakesWord-negated}
use Rattle.gates.proofs.BitListLemmas.{word_value-below}
use Rattle.gates.proofs.WordLemmas.{word-push}

-- the two bits of the sum of two bits
half_sum : (x y : Bool) → bit_number (not (x && y) && not (not x && not y)) + 2 * bit_number (x && y) ≡ bit_number x + bit_number y
half_sum true true = refl
half_sum true false = refl
half_sum false true = refl
half_sum false false = refl

-- at most one of two bits is one: their or is their sum
one_of_two : (x y : Bool) → bit_number x + bit_number y ≤ 1 → bit_number (x || y) ≡ bit_number x + bit_number y
one_of_two true true h = absurd (omega arith)
one_of_two true false h = refl
one_of_two false true h = refl
one_of_two false false h = refl

-- the and of two literals and the exclusive or by it
pub MakesColumn-half : (n0 n1 n2 n3 : Net) (a b both neither sum : ℕ)
    → MakesAnd n0 n1 a b both → MakesAnd n1 n2 (negation a) (negation b) neither → MakesAnd n2 n3 (negation both) (negation neither) sum
    → MakesColumn n0 n3 3 (λ v. literal_number v a + literal_number v b) sum both
MakesColumn-half n0 n1 n2 n3 a b both neither sum first second third =
    let last_two = Grows-trans n1 n2 n3 1 1 second.grows third.grows in
    record {
      grows = Grows-trans n0 n1 n3 1 2 first.grows last_two;
      sum_defined = third.defined;
      carry_defined = IsDefined-grown n1 n3 2 last_two both first.defined;
      means = λ v s.
          let at_two = Satisfies-earlier n2 n3 1 third.grows v s in
          let at_one = Satisfies-earlier n1 n2 1 second.grows v at_two in
          rw (third.means v s, literal_value-negation v both, literal_value-negation v neither, second.means v at_two, literal_value-negation v a, literal_value-negation v b, first.means v at_one)
          (half_sum (literal_value v a) (literal_value v b));
    }

-- two half adders, and a carry from either
pub MakesColumn-full : (n0 n1 n2 n3 : Net) (a b c low first second sum carry : ℕ)
    → MakesColumn n0 n1 3 (λ v. literal_number v a + literal_number v b) low first
    → MakesColumn n1 n2 3 (λ v. literal_number v low + literal_number v c) sum second
    → MakesLiteral n2 n3 1 (λ v. literal_value v first || literal_value v second) carry
    → MakesColumn n0 n3 7 (λ v. literal_number v a + literal_number v b + literal_number v c) sum carry
MakesColumn-full n0 n1 n2 n3 a b c low first second sum carry one two three =
    record {
      grows = Grows-trans n0 n1 n3 3 4 one.grows (Grows-trans n1 n2 n3 3 1 two.grows three.grows);
      sum_defined = IsDefined-grown n2 n3 1 three.grows sum two.sum_defined;
      carry_defined = three.defined;
      means = λ v s.
          let at_two = Satisfies-earlier n2 n3 1 three.grows v s in
          let at_one = Satisfies-earlier n1 n2 3 two.grows v at_two in
          let x = bit_number_small (literal_value v a) in
          let y = bit_number_small (literal_value v b) in
          let z = bit_number_small (literal_value v c) in
          let low_is = one.means v at_one in
          let sum_is = two.means v at_two in
          let carry_is = one_of_two (literal_value v first) (literal_value v second) (omega (arith, low_is, sum_is, x, y, z)) in
          omega (arith, ap bit_number (three.means v s), carry_is, low_is, sum_is);
    }

-- two bits and one, by the two bits' sum: its low bit is the other one, and it has a high bit where one of the two is 1
with_one : (x y s k : Bool) → bit_number s + 2 * bit_number k ≡ bit_number x + bit_number y → bit_number (not s) + 2 * bit_number (x || y) ≡ bit_number x + bit_number y + 1
with_one true true true k e = absurd (omega (arith, e))
with_one true true false k e = refl
with_one true false true k e = refl
with_one true false false k e = absurd (omega (arith, e))
with_one false true true k e = refl
with_one false true false k e = absurd (omega (arith, e))
with_one false false true k e = absurd (omega (arith, e))
with_one false false false k e = refl

pub MakesColumn-one : (n0 n1 n2 : Net) (a b low first carry : ℕ)
    → MakesColumn n0 n1 3 (λ v. literal_number v a + literal_number v b) low first
    → MakesLiteral n1 n2 1 (λ v. literal_value v a || literal_value v b) carry
    → MakesColumn n0 n2 4 (λ v. literal_number v a + literal_number v b + 1) (negation low) carry
MakesColumn-one n0 n1 n2 a b low first carry one two =
    record {
      grows = Grows-trans n0 n1 n2 3 1 one.grows two.grows;
      sum_defined = IsDefined-negation n2 low (IsDefined-grown n1 n2 1 two.grows low one.sum_defined);
      carry_defined = two.defined;
      means = λ v s.
          let low_is = one.means v (Satisfies-earlier n1 n2 1 two.grows v s) in
          rw (literal_value-negation v low, two.means v s) (with_one (literal_value v a) (literal_value v b) (literal_value v low) (literal_value v first) low_is);
    }

-- so is the sum of three bits of which one is true
pub MakesColumn-with_true : (old new : Net) (a b c sum carry : ℕ) → c ≡ 1 → MakesColumn old new 4 (λ v. literal_number v a + literal_number v b + 1) sum carry
    → MakesColumn old new 7 (λ v. literal_number v a + literal_number v b + literal_number v c) sum carry
MakesColumn-with_true old new a b c sum carry is makes = record {
  grows = Grows-weaker old new 4 7 (omega arith) makes.grows;
  sum_defined = makes.sum_defined;
  carry_defined = makes.carry_defined;
  means = λ v s. rw is (makes.means v s);
}

-- a literal read at a place of a list is one of its literals
pub literal_at : (n : Net) (ls : List ℕ) (i l : ℕ) → i < length ls → l ≡ get_or ls i l → All (IsDefined n) ls → IsDefined n l
literal_at n ls i l inside is defined = rw is (All-get_or (IsDefined n) ls i l inside defined)

-- and the front of the list up to it is one literal longer
pub front_with : (ls : List ℕ) (i l : ℕ) → i < length ls → l ≡ get_or ls i l → take (i + 1) ls ≡ take i ls ++ l ∷ []
front_with ls i l inside is = take_more ls i l inside ∙ ap (λ x. take i ls ++ x ∷ []) (sym is)

-- a literal more at the high end of a word
pub word_value-push : (v : Valuation) (ls : List ℕ) (l : ℕ) → word_value v (ls ++ l ∷ []) ≡ word_value v ls + 2 ^ length ls * literal_number v l
word_value-push v ls l =
    ap word (map-append (literal_value v) ls (l ∷ [])) ∙ word-push (map (literal_value v) ls) (literal_value v l)
    ∙ ap (λ n. word_value v ls + 2 ^ n * literal_number v l) (length-map ls (literal_value v))

-- a column more at the high end of a sum
column_more : (p s o a b c low high x y : ℕ) → s + p * o ≡ a + b + c → low + 2 * high ≡ x + y + o → s + p * low + 2 * p * high ≡ a + p * x + (b + p * y) + c
column_more p s o a b c low high x y whole column = omega (arith, whole, ap (λ k. p * k) column)

-- the carry is what is above the words' lower bits
carry_is : (p s o a b c x y : ℕ) → s < p → a < p → b < p → s + p * o ≡ a + b + c → o ≡ ((a + p * x) % p + (b + p * y) % p + c) / p
carry_is p s o a b c x y s_below a_below b_below whole =
    let low_a : (a + p * x) % p ≡ a = add-mul-mod_self_left a p x ∙ mod-eq_of_lt a_below in
    let low_b : (b + p * y) % p ≡ b = add-mul-mod_self_left b p y ∙ mod-eq_of_lt b_below in
    let sum_is : o * p + s ≡ a + b + c = omega (arith, whole) in
    sym (div-mul-add o p s s_below) ∙ ap (λ k. k / p) sum_is ∙ rw (low_a, low_b) refl

-- nothing is added yet
pub MakesSum-start : (n : Net) (carry : ℕ) → IsDefined n carry → MakesSum n n 0 [] [] carry [] carry carry
MakesSum-start n carry defined =
    record {
      grows = Grows-refl n 0;
      wide = refl;
      sum_defined = All-nil (IsDefined n);
      top_defined = defined;
      out_defined = defined;
      whole = λ v s. omega arith;
      top = λ v s. omega arith;
    }

-- a column is added at the high end
pub MakesSum-step : (old mid new : Net) (most all : ℕ) (a b : List ℕ) (carry : ℕ) (sum : List ℕ) (into_top out x y low high : ℕ)
    → length b ≡ length a → most + 7 ≡ all → MakesSum old mid most a b carry sum into_top out
    → MakesColumn mid new 7 (λ v. literal_number v x + literal_number v y + literal_number v out) low high
    → MakesSum old new all (a ++ x ∷ []) (b ++ y ∷ []) carry (sum ++ low ∷ []) out high
MakesSum-step old mid new most all a b carry sum into_top out x y low high same all_is so_far column =
    let one_more = length-append a (x ∷ []) in
    let width : length (a ++ x ∷ []) ≡ suc (length a) = omega (arith, one_more) in
    let below : length (a ++ x ∷ []) - 1 ≡ length a = omega (arith, one_more) in
    let in_b : (v : Valuation) → word_value v (b ++ y ∷ []) ≡ word_value v b + 2 ^ length a * literal_number v y = λ v. word_value-push v b y ∙ ap (λ n. word_value v b + 2 ^ n * literal_number v y) same in
    let in_sum : (v : Valuation) → word_value v (sum ++ low ∷ []) ≡ word_value v sum + 2 ^ length a * literal_number v low = λ v. word_value-push v sum low ∙ ap (λ n. word_value v sum + 2 ^ n * literal_number v low) so_far.wide in
    record {
      grows = Grows-weaker old new (most + 7) all (omega arith) (Grows-trans old mid new most 7 so_far.grows column.grows);
      wide = omega (arith, length-append sum (low ∷ []), so_far.wide, one_more);
      sum_defined = All-push (IsDefined new) sum low (All-defined-grown mid new 7 column.grows sum so_far.sum_defined) column.sum_defined;
      top_defined = IsDefined-grown mid new 7 column.grows out so_far.out_defined;
      out_defined = column.carry_defined;
      whole = λ v s.
          let before = so_far.whole v (Satisfies-earlier mid new 7 column.grows v s) in
          rw (in_sum v, word_value-push v a x, in_b v, width, two_more (length a))
          (column_more (2 ^ length a) (word_value v sum) (literal_number v out) (word_value v a) (word_value v b) (literal_number v carry) (literal_number v low) (literal_number v high) (literal_number v x) (literal_number v y) before (column.means v s));
      top = λ v s.
          let before = so_far.whole v (Satisfies-earlier mid new 7 column.grows v s) in
          let sum_below : word_value v sum < 2 ^ length a = word_value-below v sum (length a) so_far.wide in
          let b_below : word_value v b < 2 ^ length a = word_value-below v b (length a) same in
          rw (below, word_value-push v a x, in_b v)
          (carry_is (2 ^ length a) (word_value v sum) (literal_number v out) (word_value v a) (word_value v b) (literal_number v carry) (literal_number v x) (literal_number v y) sum_below (word_value-below v a (length a) refl) b_below before);
    }

-- all columns are added
pub MakesSum-whole : (old new : Net) (few most i : ℕ) (a b : List ℕ) (carry : ℕ) (sum : List ℕ) (into_top out : ℕ)
    → length a ≤ i → length b ≤ i → few ≤ most → MakesSum old new few (take i a) (take i b) carry sum into_top out → MakesSum old new most a b carry sum into_top out
MakesSum-whole old new few most i a b carry sum into_top out in_a in_b le makes =
    let whole_a : take i a ≡ a = take_all i a in_a in
    let whole_b : take i b ≡ b = take_all i b in_b in
    let all : MakesSum old new few a b carry sum into_top out = rw (whole_a, whole_b) at makes in
    record {
      grows = Grows-weaker old new few most le all.grows;
      wide = all.wide;
      sum_defined = all.sum_defined;
      top_defined = all.top_defined;
      out_defined = all.out_defined;
      whole = all.whole;
      top = all.top;
    }

-- the highest bit of a sum, by the highest bits and the carry into them
pub top_sum : (p s : ℕ) (x y o : Bool) → s < p → (s + p * (bit_number x + bit_number y + bit_number o)) % (2 * p) ≡ s + p * bit_number (differ (differ x y) o)
top_sum p s true true true below = ap (λ k. k % (2 * p)) (omega arith) ∙ add-mul-mod_self_left (s + p * 1) (2 * p) 1 ∙ mod-eq_of_lt (omega arith)
top_sum p s true true false below = ap (λ k. k % (2 * p)) (omega arith) ∙ add-mul-mod_self_left (s + p * 0) (2 * p) 1 ∙ mod-eq_of_lt (omega arith)
top_sum p s true false true below = ap (λ k. k % (2 * p)) (omega arith) ∙ add-mul-mod_self_left (s + p * 0) (2 * p) 1 ∙ mod-eq_of_lt (omega arith)
top_sum p s true false false below = mod-eq_of_lt (omega arith)
top_sum p s false true true below = ap (λ k. k % (2 * p)) (omega arith) ∙ add-mul-mod_self_left (s + p * 0) (2 * p) 1 ∙ mod-eq_of_lt (omega arith)
top_sum p s false true false below = mod-eq_of_lt (omega arith)
top_sum p s false false true below = mod-eq_of_lt (omega arith)
top_sum p s false false false below = mod-eq_of_lt (omega arith)

-- the low part of a sum is the sum modulo the words
low_part : (p s o t : ℕ) → s < p → s + p * o ≡ t → t % p ≡ s
low_part p s o t below whole = ap (λ k. k % p) (sym whole) ∙ add-mul-mod_self_left s p o ∙ mod-eq_of_lt below

-- the sum's bits read as what the whole sum is modulo the words
pub MakesWord-sum : (old new : Net) (most : ℕ) (a b : List ℕ) (carry : ℕ) (sum : List ℕ) (into_top out : ℕ) (meaning : Valuation → ℕ)
    → MakesSum old new most a b carry sum into_top out
    → ((v : Valuation) → (word_value v a + word_value v b + literal_number v carry) % 2 ^ length a ≡ meaning v)
    → MakesWord old new most (length a) meaning sum
MakesWord-sum old new most a b carry sum into_top out meaning makes is =
    record {
      grows = makes.grows;
      wide = makes.wide;
      defined = makes.sum_defined;
      means = λ v s.
          let below : word_value v sum < 2 ^ length a = word_value-below v sum (length a) makes.wide in
          sym (low_part (2 ^ length a) (word_value v sum) (literal_number v out) _ below (makes.whole v s)) ∙ is v;
    }

-- a difference is the sum with the negated word and one more
pub difference_is : (n a b : ℕ) → b < 2 ^ n → (a + (2 ^ n - 1 - b) + 1) % 2 ^ n ≡ wrapped n (pos a -ℤ pos b)
difference_is n a b below =
    let whole : a + (2 ^ n - 1 - b) + 1 ≡ a + (2 ^ n - b) = omega arith in
    ap (λ k. k % 2 ^ n) whole ∙ sym (wrapped_is n (pos a -ℤ pos b) 1 (a + (2 ^ n - b)) (omega (arith, ints)))

-- a literal again and again, and the words that false and true read as so
pub word_value-zeros : (v : Valuation) (n : ℕ) → word_value v (replicate n 0) ≡ 0
word_value-zeros v zero = refl
word_value-zeros v (suc n) = omega (arith, word_value-zeros v n)

pub MakesWord-added : (old new : Net) (a b bits : List ℕ)
    → MakesWord old new (9 * length a) (length a) (λ v. (word_value v a + word_value v b + literal_number v 0) % 2 ^ length a) bits
    → MakesWord old new (9 * length a) (length a) (λ v. binary_value binary.Add (length a) (word_value v a) (word_value v b)) bits
MakesWord-added old new a b bits makes = record {
  grows = makes.grows;
  wide = makes.wide;
  defined = makes.defined;
  means = λ v s. makes.means v s ∙ ap (λ k. k % 2 ^ length a) (omega arith);
}

pub MakesWord-subtracted : (old new : Net) (a b negated bits : List ℕ) → length b ≡ length a → negated ≡ map negation b
    → MakesWord old new (9 * length a) (length a) (λ v. (word_value v a + word_value v negated + literal_number v 1) % 2 ^ length a) bits
    → MakesWord old new (9 * length a) (length a) (λ v. binary_value binary.Sub (length a) (word_value v a) (word_value v b)) bits
MakesWord-subtracted old new a b negated bits same is makes = record {
  grows = makes.grows;
  wide = makes.wide;
  defined = makes.defined;
  means = λ v s.
      let below : word_value v b < 2 ^ length a = word_value-below v b (length a) same in
      makes.means v s ∙ rw (is, word_value-negation v b, same) (difference_is (length a) (word_value v a) (word_value v b) below);
}

pub MakesWord-negative : (old new : Net) (a zeros sum : List ℕ) (into_top out : ℕ) → zeros ≡ replicate (length a) 0
    → MakesSum old new (9 * length zeros) zeros (map negation a) 1 sum into_top out
    → MakesWord old new (9 * length a) (length a) (λ v. unary_value unary.Neg (length a) (word_value v a)) sum
MakesWord-negative old new a zeros sum into_top out are makes =
    let same : length zeros ≡ length a = rw are (length-replicate {A = ℕ} (length a) 0) in
    rw (← same)
    (MakesWord-sum old new (9 * length zeros) zeros (map negation a) 1 sum into_top out (λ v. unary_value unary.Neg (length zeros) (word_value v a)) makes
    (λ v. rw (same, are, word_value-zeros v (length a), word_value-negation v a) (difference_is (length a) 0 (word_value v a) (word_value-below v a (length a) refl))))

pub MakesWord-incremented : (old new : Net) (a zeros sum : List ℕ) (into_top out : ℕ) → zeros ≡ replicate (length a) 0
    → MakesSum old new (9 * length a) a zeros 1 sum into_top out
    → MakesWord old new (9 * length a) (length a) (λ v. unary_value unary.Inc (length a) (word_value v a)) sum
MakesWord-incremented old new a zeros sum into_top out are makes =
    MakesWord-sum old new (9 * length a) a zeros 1 sum into_top out _ makes
    (λ v. rw (are, word_value-zeros v (length a)) (ap (λ k. k % 2 ^ length a) (omega arith)))

-- one less is the negation of one more than the negation
one_less : (n x : ℕ) → x < 2 ^ n → 2 ^ n - 1 - (2 ^ n - 1 - x + 1) % 2 ^ n ≡ wrapped n (pos x -ℤ pos 1)
one_less n zero below =
    let p = pow_pos n in
    let none : (2 ^ n - 1 - zero + 1) % 2 ^ n ≡ 0 = ap (λ k. k % 2 ^ n) (omega arith) ∙ add-mul-mod_self_left 0 (2 ^ n) 1 ∙ mod-eq_of_lt p in
    let all : (2 ^ n - 1) % 2 ^ n ≡ 2 ^ n - 1 = mod-eq_of_lt (omega arith) in
    let whole : 2 ^ n - 1 - (2 ^ n - 1 - zero + 1) % 2 ^ n ≡ 2 ^ n - 1 = omega (arith, none) in
    whole ∙ (sym all ∙ sym (wrapped_is n (pos zero -ℤ pos 1) 1 (2 ^ n - 1) (omega (arith, ints, p))))
one_less n (suc y) below =
    let p = pow_pos n in
    let some : (2 ^ n - 1 - suc y + 1) % 2 ^ n ≡ 2 ^ n - suc y = ap (λ k. k % 2 ^ n) (omega arith) ∙ mod-eq_of_lt (omega arith) in
    let rest : 2 ^ n - 1 - (2 ^ n - suc y) ≡ y = omega arith in
    let low : y % 2 ^ n ≡ y = mod-eq_of_lt (omega arith) in
    ap (λ k. 2 ^ n - 1 - k) some ∙ (rest ∙ (sym low ∙ sym (wrapped_is n (pos (suc y) -ℤ pos 1) 0 y (omega (arith, ints)))))

pub MakesWord-decremented : (old new : Net) (a negated incremented bits : List ℕ) → negated ≡ map negation a → bits ≡ map negation incremented
    → MakesWord old new (9 * length negated) (length negated) (λ v. unary_value unary.Inc (length negated) (word_value v negated)) incremented
    → MakesWord old new (9 * length a) (length a) (λ v. unary_value unary.Dec (length a) (word_value v a)) bits
MakesWord-decremented old new a negated incremented bits negated_is bits_are makes =
    let same : length negated ≡ length a = rw negated_is (length-map a negation) in
    let of_a = rw same at makes in
    let turned = MakesWord-negated old new (9 * length a) (length a) (λ v. unary_value unary.Inc (length a) (word_value v negated)) incremented bits bits_are of_a in
    record {
      grows = turned.grows;
      wide = turned.wide;
      defined = turned.defined;
      means = λ v s. turned.means v s ∙ rw (negated_is, word_value-negation v a) (one_less (length a) (word_value v a) (word_value-below v a (length a) refl));
    }
