-- The order of words, and the gates that tell it.
use Rattle.std.proofs.Common.{◌≡◌, ℕ, suc, ◌+◌, ◌-◌, ◌*◌, ◌^◌, ◌<◌, ◌≤◌, Bool, true, false, not, ◌&&◌, ◌||◌, nat_lt, nat_le, List, [], ◌∷◌, ◌++◌, length, take, get_or, ℤ, pos, ◌-ℤ◌, int_lt, int_le, All, refl, sym, ap, ◌∙◌, arith, length-append, length-take}
use Rattle.std.proofs.lemmas.Bool.Decides.{nat_tests}
use Rattle.std.proofs.lemmas.Int.{ints}
use Rattle.std.proofs.lemmas.List.{take_all, take_more}
use Rattle.std.proofs.lemmas.List.Elements.{All-push, All-take, All-get_or}
use Rattle.base.specs.Word.{bit_number}
use Rattle.base.specs.Signed.{signed}
use Rattle.base.proofs.SignedLaws.{half, signed_low, signed_high}
use Rattle.base.specs.Literal.{Valuation, literal_value, negation}
use Rattle.aiger.specs.Net.{Net, IsDefined}
use Rattle.base.proofs.LiteralLemmas.{literal_value-negation}
use Rattle.aiger.proofs.NetLemmas.{IsDefined-negation, IsDefined-false}
use Rattle.gates.specs.Made.{MakesAnd, MakesLiteral, MakesWord, word_value}
use Rattle.gates.specs.Sums.{literal_number}
use Rattle.gates.specs.Tests.{with_top_negated}
use Rattle.gates.proofs.GrowthLemmas.{Grows-refl, Grows-weaker, Grows-trans, Satisfies-earlier}
use Rattle.gates.proofs.LiteralLemmas.{MakesLiteral-not, MakesLiteral-same}
use Rattle.gates.proofs.BitListLemmas.{MakesWord-bit, MakesWord-same, word_value-below}
use Rattle.gates.proofs.SumLemmas.{word_value-push}

-- less in a column, or not greater in it and less below
column_order : (x y below : Bool) → ((not x && y) || (below && not (x && not y))) ≡ nat_lt (bit_number x) (bit_number y + bit_number below)
column_order true true true = refl
column_order true true false = refl
column_order true false true = refl
column_order true false false = refl
column_order false true true = refl
column_order false true false = refl
column_order false false true = refl
column_order false false false = refl

-- two words in order by their highest bits and what is below them
order_more : (p a b : ℕ) (x y : Bool) → a < p → b < p
    → nat_lt (bit_number x) (bit_number y + bit_number (nat_lt a b)) ≡ nat_lt (a + p * bit_number x) (b + p * bit_number y)
order_more p a b true true ha hb = grind (arith, nat_tests)
order_more p a b true false ha hb = grind (arith, nat_tests)
order_more p a b false true ha hb = grind (arith, nat_tests)
order_more p a b false false ha hb = grind (arith, nat_tests)

-- the gates of a column
pub MakesLiteral-column : (n0 n1 n2 n3 n4 : Net) (a b below less greater rest l : ℕ)
    → MakesAnd n0 n1 (negation a) b less → MakesAnd n1 n2 a (negation b) greater → MakesAnd n2 n3 below (negation greater) rest → MakesLiteral n3 n4 1 (λ v. literal_value v less || literal_value v rest) l
    → MakesLiteral n0 n4 4 (λ v. nat_lt (literal_number v a) (literal_number v b + literal_number v below)) l
MakesLiteral-column n0 n1 n2 n3 n4 a b below less greater rest l first second third fourth =
    record {
      grows = Grows-trans n0 n1 n4 1 3 first.grows (Grows-trans n1 n2 n4 1 2 second.grows (Grows-trans n2 n3 n4 1 1 third.grows fourth.grows));
      defined = fourth.defined;
      means = λ v s.
          let at_three = Satisfies-earlier n3 n4 1 fourth.grows v s in
          let at_two = Satisfies-earlier n2 n3 1 third.grows v at_three in
          let at_one = Satisfies-earlier n1 n2 1 second.grows v at_two in
          rw (
            fourth.means v s,
            third.means v at_three,
            literal_value-negation v greater,
            second.means v at_two,
            literal_value-negation v b,
            first.means v at_one,
            literal_value-negation v a,
          )
          (column_order (literal_value v a) (literal_value v b) (literal_value v below));
    }

-- the gate of a column where nothing below is less
pub MakesLiteral-lowest : (old new : Net) (a b below l : ℕ) → below ≡ 0 → MakesAnd old new (negation a) b l
    → MakesLiteral old new 4 (λ v. nat_lt (literal_number v a) (literal_number v b + literal_number v below)) l
MakesLiteral-lowest old new a b below l none makes =
    record {
      grows = Grows-weaker old new 1 4 (omega arith) makes.grows;
      defined = makes.defined;
      means = λ v s. rw (none, makes.means v s, literal_value-negation v a) (lowest (literal_value v a) (literal_value v b));
    }
  where
    lowest : (x y : Bool) → (not x && y) ≡ nat_lt (bit_number x) (bit_number y + 0)
    lowest true true = refl
    lowest true false = refl
    lowest false true = refl
    lowest false false = refl

-- no word of no bits is less than another
pub MakesLiteral-not_less : (n : Net) → MakesLiteral n n 0 (λ v. nat_lt (word_value v []) (word_value v [])) 0
MakesLiteral-not_less n = record { grows = Grows-refl n 0; defined = IsDefined-false n; means = λ v s. refl }

-- words that are a column longer
pub MakesLiteral-less_step : (old mid new : Net) (most all : ℕ) (a b : List ℕ) (x y below l : ℕ) → length b ≡ length a → most + 4 ≡ all
    → MakesLiteral old mid most (λ v. nat_lt (word_value v a) (word_value v b)) below
    → MakesLiteral mid new 4 (λ v. nat_lt (literal_number v x) (literal_number v y + literal_number v below)) l
    → MakesLiteral old new all (λ v. nat_lt (word_value v (a ++ x ∷ [])) (word_value v (b ++ y ∷ []))) l
MakesLiteral-less_step old mid new most all a b x y below l same all_is so_far column =
    record {
      grows = Grows-weaker old new (most + 4) all (omega arith) (Grows-trans old mid new most 4 so_far.grows column.grows);
      defined = column.defined;
      means = λ v s.
          let before = so_far.means v (Satisfies-earlier mid new 4 column.grows v s) in
          let in_b : word_value v (b ++ y ∷ []) ≡ word_value v b + 2 ^ length a * literal_number v y = word_value-push v b y ∙ ap (λ n. word_value v b + 2 ^ n * literal_number v y) same in
          let b_below : word_value v b < 2 ^ length a = word_value-below v b (length a) same in
          rw (column.means v s, before, word_value-push v a x, in_b)
          (order_more (2 ^ length a) (word_value v a) (word_value v b) (literal_value v x) (literal_value v y) (word_value-below v a (length a) refl) b_below);
    }

-- a word's signed number is what is below its highest bit, less half of the words where that is 1
pub signed_top : (n low : ℕ) (x : Bool) → 1 ≤ n → low < 2 ^ (n - 1) → signed n (low + 2 ^ (n - 1) * bit_number x) ≡ pos low -ℤ pos (2 ^ (n - 1) * bit_number x)
signed_top n low true h below = signed_high n (low + 2 ^ (n - 1) * 1) (omega arith) ∙ omega (arith, ints, half n h)
signed_top n low false h below = signed_low n (low + 2 ^ (n - 1) * 0) (omega arith) ∙ omega (arith, ints)

-- and half of the words more is the word with that bit negated
half_up : (p low : ℕ) (x : Bool) → pos low -ℤ pos (p * bit_number x) ≡ pos (low + p * bit_number (not x)) -ℤ pos p
half_up p low true = omega (arith, ints)
half_up p low false = omega (arith, ints)

-- so signed numbers are in the order of their words with the highest bits negated
order_by_half : (a b p : ℕ) → nat_lt a b ≡ int_lt (pos a -ℤ pos p) (pos b -ℤ pos p)
order_by_half a b p = grind (arith, nat_tests, ints)

-- a word is what is below its highest bit and that bit
pub word_value-top : (v : Valuation) (ls : List ℕ) (k : ℕ) → suc k ≡ length ls → word_value v ls ≡ word_value v (take k ls) + 2 ^ k * literal_number v (get_or ls k 0)
word_value-top v ls k is =
    let inside : k < length ls = omega arith in
    let whole : take (k + 1) ls ≡ ls = take_all (k + 1) ls (omega arith) in
    let front : length (take k ls) ≡ k = omega (arith, length-take k ls) in
    let split : ls ≡ take k ls ++ get_or ls k 0 ∷ [] = sym whole ∙ take_more ls k 0 inside in
    ap (word_value v) split ∙ word_value-push v (take k ls) (get_or ls k 0) ∙ ap (λ n. word_value v (take k ls) + 2 ^ n * literal_number v (get_or ls k 0)) front

-- the same with the highest bit negated
pub word_value-top_negated : (v : Valuation) (ls : List ℕ) (k : ℕ) → suc k ≡ length ls
    → word_value v (with_top_negated ls) ≡ word_value v (take k ls) + 2 ^ k * bit_number (not (literal_value v (get_or ls k 0)))
word_value-top_negated v ls k is =
    let at : length ls - 1 ≡ k = omega arith in
    let front : length (take k ls) ≡ k = omega (arith, length-take k ls) in
    rw at (word_value-push v (take k ls) (negation (get_or ls k 0)) ∙ rw (front, literal_value-negation v (get_or ls k 0)) refl)

-- literals with the highest one negated are as many, and as defined
pub length-top_negated : (ls : List ℕ) → 1 ≤ length ls → length (with_top_negated ls) ≡ length ls
length-top_negated ls some = omega (arith, length-append (take (length ls - 1) ls) (negation (get_or ls (length ls - 1) 0) ∷ []), length-take (length ls - 1) ls)

pub All-top_negated : (n : Net) (ls bits : List ℕ) → bits ≡ with_top_negated ls → 1 ≤ length ls → All (IsDefined n) ls → All (IsDefined n) bits
All-top_negated n ls bits are some defined =
    let k = length ls - 1 in
    let top = All-get_or (IsDefined n) ls k 0 (omega arith) defined in
    rw are (All-push (IsDefined n) (take k ls) (negation (get_or ls k 0)) (All-take (IsDefined n) k ls defined) (IsDefined-negation n (get_or ls k 0) top))

-- the literals below a place read as a word of so many bits
pub front_below : (v : Valuation) (ls : List ℕ) (k : ℕ) → k ≤ length ls → word_value v (take k ls) < 2 ^ k
front_below v ls k inside = word_value-below v (take k ls) k (omega (arith, length-take k ls))

-- the signed number of a word, by the word with its highest bit negated
pub signed_by_top : (v : Valuation) (ls : List ℕ) → 1 ≤ length ls
    → signed (length ls) (word_value v ls) ≡ pos (word_value v (with_top_negated ls)) -ℤ pos (2 ^ (length ls - 1))
signed_by_top v ls some =
    let k = length ls - 1 in
    let is : suc k ≡ length ls = omega arith in
    let low = word_value v (take k ls) in
    let top = literal_value v (get_or ls k 0) in
    ap (signed (length ls)) (word_value-top v ls k is) ∙ signed_top (length ls) low top some (front_below v ls k (omega arith)) ∙ half_up (2 ^ k) low top
    ∙ ap (λ w. pos w -ℤ pos (2 ^ k)) (sym (word_value-top_negated v ls k is))

-- the order of words with their highest bits negated is that of the signed numbers
pub MakesLiteral-signed : (old new : Net) (a b negated_a negated_b : List ℕ) (l : ℕ) → 1 ≤ length a → length b ≡ length a → negated_a ≡ with_top_negated a → negated_b ≡ with_top_negated b
    → MakesLiteral old new (6 * length negated_a) (λ v. nat_lt (word_value v negated_a) (word_value v negated_b)) l
    → MakesLiteral old new (6 * length a) (λ v. int_lt (signed (length a) (word_value v a)) (signed (length a) (word_value v b))) l
MakesLiteral-signed old new a b negated_a negated_b l some same a_is b_is makes =
    let as_wide = length-top_negated a some in
    record {
      grows = Grows-weaker old new (6 * length negated_a) (6 * length a) (rw a_is (omega (arith, as_wide))) makes.grows;
      defined = makes.defined;
      means = λ v s.
          let of_b : signed (length a) (word_value v b) ≡ pos (word_value v (with_top_negated b)) -ℤ pos (2 ^ (length a - 1)) = rw (← same) (signed_by_top v b (rw same some)) in
          makes.means v s ∙ rw (a_is, b_is, signed_by_top v a some, of_b) (order_by_half (word_value v (with_top_negated a)) (word_value v (with_top_negated b)) (2 ^ (length a - 1)));
    }

-- a literal as a word of one bit
pub MakesWord-test : (old new : Net) (few most : ℕ) (holds : Valuation → Bool) (meaning : Valuation → ℕ) (l : ℕ)
    → few ≤ most → MakesLiteral old new few holds l → ((v : Valuation) → bit_number (holds v) ≡ meaning v) → MakesWord old new most 1 meaning (l ∷ [])
MakesWord-test old new few most holds meaning l le makes is =
    MakesWord-same old new most 1 (λ v. bit_number (holds v)) meaning (l ∷ []) is (MakesWord-bit old new most l holds (l ∷ []) refl (MakesLiteral-same old new few most l holds holds le (λ v. refl) makes))

-- a literal's negation as a word of one bit
pub MakesWord-test_not : (old new : Net) (few most : ℕ) (holds : Valuation → Bool) (meaning : Valuation → ℕ) (l not_l : ℕ)
    → not_l ≡ negation l → few ≤ most → MakesLiteral old new few holds l → ((v : Valuation) → bit_number (not (holds v)) ≡ meaning v) → MakesWord old new most 1 meaning (not_l ∷ [])
MakesWord-test_not old new few most holds meaning l not_l not_is le makes is =
    rw not_is (MakesWord-test old new few most (λ v. not (holds v)) meaning (negation l) le (MakesLiteral-not old new few l holds makes) is)

-- what is not less is greater or equal
pub not_less : (a b : ℕ) → not (nat_lt a b) ≡ nat_le b a
not_less a b = grind (arith, nat_tests)

pub not_less_signed : (y z : ℤ) → not (int_lt y z) ≡ int_le z y
not_less_signed y z = grind (arith, nat_tests, ints)
