-- Bits that gates put one after another.
use Rattle.std.proofs.Common.{◌≡◌, ◌≢◌, ℕ, ◌+◌, ◌*◌, ◌/◌, ◌%◌, ◌<◌, ◌≤◌, ◌&&◌, bit_and, List, length, get_or, set, ⊎_elim, refl, sym, ap, ap₂, subst, ◌∙◌, arith}
use Rattle.std.proofs.lemmas.Nat.{and_mod}
use Rattle.std.proofs.lemmas.Bool.{cases_eq}
use Rattle.std.proofs.lemmas.Bool.Decides.{nat_tests}
use Rattle.std.proofs.lemmas.List.{get_or-set_same, get_or-set_other, length-set}
use Rattle.base.specs.Gates.{AreGatesOver, AreAnds, ArePut}
use Rattle.base.specs.Literal.{variable, literal_value, bit_of, valuation_of, IsAnd}

-- the bit that two bytes hold both
pub bit_of-and : (a b : ℕ) → bit_of (bit_and a b) ≡ (bit_of a && bit_of b)
bit_of-and a b =
    let e : bit_and a b % 2 ≡ bit_and (a % 2) (b % 2) = and_mod a b 1 in
    ⊎_elim
    (λ (x : a % 2 ≡ 0). let zero : bit_and (a % 2) (b % 2) ≡ 0 = ap (λ (n : ℕ). bit_and n (b % 2)) x in grind (arith, nat_tests))
    (λ (x : a % 2 ≢ 0).
    let one : a % 2 ≡ 1 = omega arith in
    ⊎_elim
    (λ (y : b % 2 ≡ 0). let zero : bit_and (a % 2) (b % 2) ≡ 0 = ap₂ bit_and one y in grind (arith, nat_tests))
    (λ (y : b % 2 ≢ 0). let one' : b % 2 ≡ 1 = omega arith in let both : bit_and (a % 2) (b % 2) ≡ 1 = ap₂ bit_and one one' in grind (arith, nat_tests))
    (cases_eq (b % 2) 0))
    (cases_eq (a % 2) 0)

-- what a literal says where the bytes below a place stay
pub literal_value-below : (place : ℕ) (bits bits' : List ℕ) (l : ℕ) → ((p : ℕ) → p < place → get_or bits' p 0 ≡ get_or bits p 0) → variable l < place → literal_value (valuation_of bits') l ≡ literal_value (valuation_of bits) l
literal_value-below place bits bits' l same h = let e : get_or bits' (l / 2) 0 ≡ get_or bits (l / 2) 0 = same (l / 2) (omega arith) in grind (arith, nat_tests)

-- an output put behind its operands
pub put_is_and : (bits : List ℕ) (place a b left right : ℕ) → place < length bits → variable left < place → variable right < place → bit_of a ≡ literal_value (valuation_of bits) left → bit_of b ≡ literal_value (valuation_of bits) right
    → IsAnd (valuation_of (set bits place (bit_and a b))) place left right
put_is_and bits place a b left right room l r is_left is_right =
    let same : (p : ℕ) → p < place → get_or (set bits place (bit_and a b)) p 0 ≡ get_or bits p 0 = λ p h. get_or-set_other bits place p (bit_and a b) 0 (omega arith) in
    ap bit_of (get_or-set_same bits place (bit_and a b) 0 room) ∙ bit_of-and a b
    ∙ ap₂ ◌&&◌ (is_left ∙ sym (literal_value-below place bits (set bits place (bit_and a b)) left same l)) (is_right ∙ sym (literal_value-below place bits (set bits place (bit_and a b)) right same r))

-- the next gate has its bit, too, where that is put behind the others
pub AreAnds-more : (left right : ℕ → ℕ) (first k next n : ℕ) (bits bits' : List ℕ) → next ≡ k + 1 → k < n → ((j : ℕ) → j < n → variable (left j) < first + j) → ((j : ℕ) → j < n → variable (right j) < first + j)
    → ((p : ℕ) → p < first + k → get_or bits' p 0 ≡ get_or bits p 0) → IsAnd (valuation_of bits') (first + k) (left k) (right k) → AreAnds left right first k bits → AreAnds left right first next bits'
AreAnds-more left right first k next n bits bits' is within lefts rights same last done j h =
    ⊎_elim (λ (e : j ≡ k). rw e last)
    (λ (ne : j ≢ k).
    let below = lefts j (omega arith) in
    let below' = rights j (omega arith) in
    ap bit_of (same (first + j) (omega arith)) ∙ done j (omega arith)
    ∙ sym (ap₂ ◌&&◌ (literal_value-below (first + k) bits bits' (left j) same (omega arith)) (literal_value-below (first + k) bits bits' (right j) same (omega arith))))
    (cases_eq j k)

-- ---- so many at once

module _ (left right : ℕ → ℕ) (first : ℕ) where
  pub none_put : (bits : List ℕ) → ArePut left right first 0 0 bits bits
  none_put bits = record { values = λ done. done; others = λ p h. refl; as_many = refl }

  pub one_put : (count k a b : ℕ) (bits : List ℕ) → AreGatesOver left right count first bits → k + 1 ≤ count
      → bit_of a ≡ literal_value (valuation_of bits) (left k) → bit_of b ≡ literal_value (valuation_of bits) (right k) → ArePut left right first k 1 bits (set bits (first + k) (bit_and a b))
  one_put count k a b bits over there is_left is_right =
      let same : (p : ℕ) → p < first + k → get_or (set bits (first + k) (bit_and a b)) p 0 ≡ get_or bits p 0 = λ p h. get_or-set_other bits (first + k) p (bit_and a b) 0 (omega arith) in
      let value = put_is_and bits (first + k) a b (left k) (right k) (omega (arith, over.inside)) (over.lefts k (omega arith)) (over.rights k (omega arith)) is_left is_right in
      record {
        values = AreAnds-more left right first k (k + 1) count bits (set bits (first + k) (bit_and a b)) refl (omega arith) over.lefts over.rights same value;
        others = λ p h. same p (omega arith);
        as_many = length-set bits (first + k) (bit_and a b);
      }

  pub put_then : (k j n m total : ℕ) (x y z : List ℕ) → j ≡ k + n → total ≡ n + m → ArePut left right first k n x y → ArePut left right first j m y z → ArePut left right first k total x z
  put_then k j n m total x y z front whole one two =
      let sum : j + m ≡ k + total = omega arith in
      record {
        values = λ done. subst (λ i. AreAnds left right first i z) sum (two.values (subst (λ i. AreAnds left right first i y) (sym front) (one.values done)));
        others = λ p h. two.others p h ∙ one.others p h;
        as_many = two.as_many ∙ one.as_many;
      }

  pub over_put : (count k n : ℕ) (old new : List ℕ) → AreGatesOver left right count first old → ArePut left right first k n old new → AreGatesOver left right count first new
  over_put count k n old new over put = record {
    above = over.above;
    inside = omega (arith, over.inside, put.as_many);
    lefts = over.lefts;
    rights = over.rights;
    constant = ap bit_of (put.others 0 over.above) ∙ over.constant;
  }

  -- four of one size, one behind the other
  pub four_put : (k n : ℕ) (a b c d e : List ℕ) → ArePut left right first k n a b → ArePut left right first (k + n) n b c → ArePut left right first (k + 2 * n) n c d → ArePut left right first (k + 3 * n) n d e
      → ArePut left right first k (4 * n) a e
  four_put k n a b c d e one two three four =
      put_then k (k + 3 * n) (3 * n) n (4 * n) a d e refl (omega arith)
      (put_then k (k + 2 * n) (2 * n) n (3 * n) a c d refl (omega arith) (put_then k (k + n) n n (2 * n) a b c refl (omega arith) one two) three) four
