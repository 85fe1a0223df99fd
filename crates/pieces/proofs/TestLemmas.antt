-- What is asked of words that are cut in two, of which the high sides x and y have m bits and the low sides A and B n bits.
use Rattle.std.proofs.Common.{◌≡◌, ℕ, zero, suc, ◌+◌, ◌*◌, ◌%◌, ◌^◌, ◌<◌, ◌≤◌, Bool, true, false, not, ◌&&◌, ◌==◌, bit_and, bit_or, bit_xor, count_ones, eq-eqb, eqb-true, true≢false, List, [], ◌∷◌, ◌++◌, length, get_or, take, refl, sym, ap, ap₂, subst, subst₂, ◌∙◌, arith, pow_pos}
use Rattle.std.proofs.lemmas.Bool.{ne_eqb}
use Rattle.std.proofs.lemmas.Nat.{same_from_place, pow-add, ones_cat, mod_below}
use Rattle.base.specs.Widths.{binary_width, is_of_bits}
use Rattle.base.specs.Word.{bit_number}
use Rattle.base.specs.Operator.{ones, binary_value, concat_value}
use Rattle.btor2.specs.declared.item.Item.{Item}
use Rattle.fit.proofs.WordLemmas.{alone}
use Rattle.pieces.specs.declared.node.Node.{Node}
use Rattle.pieces.specs.declared.tests.Test.{Test}
use Rattle.pieces.specs.declared.tests.Test.TheVariants as test
use Rattle.pieces.specs.Nodes.{word_of, bits_in, AreNodes, Extends, Makes}
use Rattle.pieces.specs.Cuts.{widths}
use Rattle.pieces.specs.Tests.{test_value, join_of}
use Rattle.pieces.proofs.NodeLemmas.{later, word_fits, extends_twice}
use Rattle.pieces.proofs.ListLemmas.{word_more, bits_more, nodes_taken, nodes_at, words_fit, same_length, same_bits, same_taken, taken}

-- ---- words that are cut in two

not_both : (c : Bool) → c ≡ false → c ≡ true → ⊥
not_both c i j = true≢false (sym j ∙ i)

eq_by : (n x y A B : ℕ) → A < 2 ^ n → B < 2 ^ n → (a b : Bool) → (A == B) ≡ a → (x == y) ≡ b → (concat_value x n A == concat_value y n B) ≡ (a && b)
eq_by n x y A B h k true true e d = eq-eqb _ _ (ap₂ (λ (i j : ℕ). concat_value i n j) (eqb-true x y d) (eqb-true A B e))
eq_by n x y A B h k true false e d = ne_eqb _ _ (λ same. absurd (not_both (x == y) d (eq-eqb x y (same_from_place x A y B (2 ^ n) h k same).0)))
eq_by n x y A B h k false b e d = ne_eqb _ _ (λ same. absurd (not_both (A == B) e (eq-eqb A B (same_from_place x A y B (2 ^ n) h k same).1)))

eq_pieces : (n x y A B : ℕ) → A < 2 ^ n → B < 2 ^ n → (concat_value x n A == concat_value y n B) ≡ ((A == B) && (x == y))
eq_pieces n x y A B h k = eq_by n x y A B h k (A == B) (x == y) refl refl

both : (a b : Bool) → bit_number (a && b) ≡ bit_and (bit_number a) (bit_number b)
both true true = refl
both true false = refl
both false true = refl
both false false = refl

either : (a b : Bool) → bit_number (not (a && b)) ≡ bit_or (bit_number (not a)) (bit_number (not b))
either true true = refl
either true false = refl
either false true = refl
either false false = refl

pub ones_pieces : (m n : ℕ) → ones (m + n) ≡ concat_value (ones m) n (ones n)
ones_pieces m n =
    let high : ones m + 1 ≡ 2 ^ m = omega (arith, pow_pos m) in
    omega (arith, pow-add 2 m n, ap (λ k. k * 2 ^ n) high, pow_pos n)

pub zero_pieces : (n : ℕ) → 0 ≡ concat_value 0 n 0
zero_pieces n = omega arith

-- one of two bits, or both, is odd as their sum is
odd_sum : (p q : ℕ) → p < 2 → q < 2 → bit_xor p q ≡ (p + q) % 2
odd_sum zero zero h k = refl
odd_sum zero (suc zero) h k = refl
odd_sum (suc zero) zero h k = refl
odd_sum (suc zero) (suc zero) h k = refl
odd_sum zero (suc (suc q)) h k = absurd (omega (arith, k))
odd_sum (suc zero) (suc (suc q)) h k = absurd (omega (arith, k))
odd_sum (suc (suc p)) q h k = absurd (omega (arith, h))

odd_pieces : (n x A : ℕ) → A < 2 ^ n → bit_xor (count_ones A % 2) (count_ones x % 2) ≡ count_ones (concat_value x n A) % 2
odd_pieces n x A h =
    odd_sum (count_ones A % 2) (count_ones x % 2) (mod_below (count_ones A) 2 (omega arith)) (mod_below (count_ones x) 2 (omega arith)) ∙ omega (arith, ones_cat n x A h)

test_pieces : (by : Test) (m n x y A B : ℕ) → x < 2 ^ m → A < 2 ^ n → B < 2 ^ n
    → binary_value (join_of by) 1 (test_value by n A B) (test_value by m x y) ≡ test_value by (m + n) (concat_value x n A) (concat_value y n B)
test_pieces test.Same m n x y A B f h k = sym (ap bit_number (eq_pieces n x y A B h k) ∙ both (A == B) (x == y))
test_pieces test.Other m n x y A B f h k = sym (ap (λ (t : Bool). bit_number (not t)) (eq_pieces n x y A B h k) ∙ either (A == B) (x == y))
test_pieces test.All m n x y A B f h k =
    sym (ap (λ (i : ℕ). bit_number (concat_value x n A == i)) (ones_pieces m n) ∙ ap bit_number (eq_pieces n x (ones m) A (ones n) h (omega (arith, pow_pos n))) ∙ both (A == ones n) (x == ones m))
test_pieces test.Any m n x y A B f h k =
    sym (ap (λ (i : ℕ). bit_number (not (concat_value x n A == i))) (zero_pieces n) ∙ ap (λ (t : Bool). bit_number (not t)) (eq_pieces n x 0 A 0 h (pow_pos n)) ∙ either (A == 0) (x == 0))
test_pieces test.Odd m n x y A B f h k = odd_pieces n x A h

-- ---- one node more

pub join_width : (by : Test) → binary_width (join_of by) 1 ≡ 1
join_width test.Same = refl
join_width test.Other = refl
join_width test.All = refl
join_width test.Any = refl
join_width test.Odd = refl

pub join_of_words : (by : Test) → is_of_bits (join_of by) ≡ false
join_of_words test.Same = refl
join_of_words test.Other = refl
join_of_words test.All = refl
join_of_words test.Any = refl
join_of_words test.Odd = refl

pub answer_first : (old new : List Item) (by : Test) (xs ys : List Node) (d e r : Node) → 1 ≤ length xs → widths xs ≡ widths ys → Makes new 1 (λ g. test_value by (get_or xs 0 d).width (g (get_or xs 0 d).id) (g (get_or ys 0 e).id)) r
    → Makes new 1 (λ g. test_value by (bits_in (take 1 xs)) (word_of g (take 1 xs)) (word_of g (take 1 ys))) r
answer_first old new by [] ys d e r some alike h = absurd (omega (arith, some))
answer_first old new by (x ∷ xs) [] d e r some alike h = absurd (omega (arith, same_length (x ∷ xs) [] alike))
answer_first old new by (x ∷ xs) (y ∷ ys) d e r some alike h =
    record {
      node = h.node;
      wide = h.wide;
      word = λ more state input g w states inputs frame.
          let width : x.width ≡ 0 + x.width = omega arith in
          h.word more state input g w states inputs frame ∙ ap (λ (n : ℕ). test_value by n (g x.id) (g y.id)) width
          ∙ ap₂ (test_value by (0 + x.width)) (sym (alone x.width (g x.id))) (sym (alone y.width (g y.id)));
    }

pub answer_step : (old now m1 new : List Item) (by : Test) (xs ys : List Node) (i : ℕ) (d e so next r : Node) → AreNodes old xs → AreNodes old ys → widths xs ≡ widths ys → i < length xs → Extends old now → Extends now m1 → Extends m1 new
    → Makes now 1 (λ g. test_value by (bits_in (take i xs)) (word_of g (take i xs)) (word_of g (take i ys))) so
    → Makes m1 1 (λ g. test_value by (get_or xs i d).width (g (get_or xs i d).id) (g (get_or ys i e).id)) next
    → Makes new (binary_width (join_of by) so.width) (λ g. binary_value (join_of by) so.width (g so.id) (g next.id)) r
    → Makes new 1 (λ g. test_value by (bits_in (take (i + 1) xs)) (word_of g (take (i + 1) xs)) (word_of g (take (i + 1) ys))) r
answer_step old now m1 new by xs ys i d e so next r in_xs in_ys alike within e0 e1 e2 h k made =
    let also : i < length ys = subst (λ (n : ℕ). i < n) (same_length xs ys alike) within in
    let a = get_or xs i d in
    let b = get_or ys i e in
    let front = take i xs in
    let back = take i ys in
    let same : bits_in front ≡ bits_in back = same_bits front back (same_taken xs ys i alike) in
    let e12 = extends_twice now m1 new e1 e2 in
    let all = extends_twice old now new e0 e12 in
    subst₂ (λ (k l : List Node). Makes new 1 (λ g. test_value by (bits_in k) (word_of g k) (word_of g l)) r) (sym (taken xs i d within)) (sym (taken ys i e also))
    (record {
      node = made.node;
      wide = made.wide ∙ ap (binary_width (join_of by)) h.wide ∙ join_width by;
      word = λ more state input g w states inputs frame.
          let first = later now new (λ g. g so.id ≡ test_value by (bits_in front) (word_of g front) (word_of g back)) e12 h.word more state input g w states inputs frame in
          let second = later m1 new (λ g. g next.id ≡ test_value by a.width (g a.id) (g b.id)) e2 k.word more state input g w states inputs frame in
          let x = later old new (λ g. g a.id < 2 ^ a.width) all (word_fits old a (nodes_at old xs i d within in_xs)) more state input g w states inputs frame in
          let A = later old new (λ g. word_of g front < 2 ^ bits_in front) all (words_fit old front (nodes_taken old i xs in_xs)) more state input g w states inputs frame in
          let B = later old new (λ g. word_of g back < 2 ^ bits_in back) all (words_fit old back (nodes_taken old i ys in_ys)) more state input g w states inputs frame in
          made.word more state input g w states inputs frame ∙ ap (λ (n : ℕ). binary_value (join_of by) n (g so.id) (g next.id)) h.wide
          ∙ ap₂ (binary_value (join_of by) 1) first second
          ∙ test_pieces by a.width (bits_in front) (g a.id) (g b.id) (word_of g front) (word_of g back) x A (rw same B)
          ∙ ap (λ (n : ℕ). test_value by (a.width + bits_in front) (concat_value (g a.id) (bits_in front) (word_of g front)) (concat_value (g b.id) n (word_of g back))) same
          ∙ ap₂ (test_value by (a.width + bits_in front)) (sym (word_more g front a)) (sym (word_more g back b))
          ∙ ap (λ (n : ℕ). test_value by n (word_of g (front ++ a ∷ [])) (word_of g (back ++ b ∷ []))) (sym (bits_more front a));
    })
