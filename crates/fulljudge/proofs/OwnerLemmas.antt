-- The value that a word is of, and where the words of values stand.
use Rattle.std.proofs.Common.{◌≡◌, ℕ, zero, suc, ◌+◌, ◌-◌, ◌<◌, ◌≤◌, ◌⊎◌, Bool, cond, List, [], ◌∷◌, length, slice_get, Some, refl, sym, ap, subst, ◌∙◌, inl, inr, arith}
use Rattle.std.proofs.Math.Pow.{pow_mono}
use Rattle.std.proofs.lemmas.Bool.{cases_lt, lt-ltb, le-ltb}
use Rattle.full.specs.Lines.{Sort, words, arrays}
use Rattle.fulljudge.specs.Shapes.{word_count, first_index, value_of_word}
use Rattle.fulljudge.specs.Kept.{words_in}
use Rattle.fulljudge.proofs.ValuesLemmas.{words_first}

pub first_none : (sorts : List Sort) → first_index sorts 0 ≡ 0
first_none [] = refl
first_none (s ∷ sorts) = refl

-- behind the last value stands no word
pub first_past : (sorts : List Sort) → first_index sorts (length sorts) ≡ words_in sorts
first_past [] = refl
first_past (s ∷ sorts) = ap (λ (n : ℕ). word_count s + n) (first_past sorts) ∙ sym (words_first s sorts)

owner_here : (s : Sort) (sorts : List Sort) (k : ℕ) → k < word_count s → value_of_word (s ∷ sorts) k ≡ 0
owner_here s sorts k h = ap (λ (b : Bool). cond b 0 (suc (value_of_word sorts (k - word_count s)))) (lt-ltb k (word_count s) h)

owner_later : (s : Sort) (sorts : List Sort) (k : ℕ) → word_count s ≤ k → value_of_word (s ∷ sorts) k ≡ suc (value_of_word sorts (k - word_count s))
owner_later s sorts k h = ap (λ (b : Bool). cond b 0 (suc (value_of_word sorts (k - word_count s)))) (le-ltb k (word_count s) h)

-- a word between the first of a value and that of the next is of the value
pub owner_is : (sorts : List Sort) (i k : ℕ) → first_index sorts i ≤ k → k < first_index sorts (suc i) → value_of_word sorts k ≡ i
owner_is [] i k low high = absurd (omega (arith, high))
owner_is (s ∷ sorts) zero k low high = owner_here s sorts k (omega (arith, high, first_none sorts))
owner_is (s ∷ sorts) (suc i) k low high =
    owner_later s sorts k (omega (arith, low)) ∙ ap suc (owner_is sorts i (k - word_count s) (omega (arith, low)) (omega (arith, low, high)))

-- a word behind the last is of no value
pub owner_past : (sorts : List Sort) (k : ℕ) → words_in sorts ≤ k → length sorts ≡ value_of_word sorts k
owner_past [] k h = refl
owner_past (s ∷ sorts) k h =
    let whole = words_first s sorts in
    ap suc (owner_past sorts (k - word_count s) (omega (arith, h, whole))) ∙ sym (owner_later s sorts k (omega (arith, h, whole)))

-- where a word stands among those of its value
pub record Stands (sorts : List Sort) (k : ℕ) : Type 0 where
  pub place : ℕ
  pub sort : Sort
  pub owner : value_of_word sorts k ≡ place
  pub there : slice_get sorts place ≡ Some sort
  pub from : first_index sorts place ≤ k
  pub below : k < first_index sorts place + word_count sort

pub stands : (sorts : List Sort) (k : ℕ) → k < words_in sorts → Stands sorts k
stands [] k h = absurd (omega (arith, h))
stands (s ∷ sorts) k h = by (cases_lt k (word_count s)) (stands sorts (k - word_count s))
  where
    by : (k < word_count s) ⊎ (word_count s ≤ k) → (k - word_count s < words_in sorts → Stands sorts (k - word_count s)) → Stands (s ∷ sorts) k
    by (inl here) more = record { place = 0; sort = s; owner = owner_here s sorts k here; there = refl; from = omega arith; below = omega (arith, here) }
    by (inr later) more =
        let rest = more (omega (arith, h, later, words_first s sorts)) in
        record {
          place = suc rest.place;
          sort = rest.sort;
          owner = owner_later s sorts k later ∙ ap suc rest.owner;
          there = rest.there;
          from = omega (arith, rest.from, later);
          below = omega (arith, rest.below, later);
        }

-- ---- as many words as values at least

some_word : (s : Sort) → 1 ≤ word_count s
some_word (words n) = omega arith
some_word (arrays k n) = pow_mono {i = 0} {j = k} (omega arith)

pub some_words : (sorts : List Sort) → length sorts ≤ words_in sorts
some_words [] = omega arith
some_words (s ∷ sorts) = omega (arith, words_first s sorts, some_word s, some_words sorts)

-- ---- where a search for a value begins, and where it ends

pub some_value : (sorts : List Sort) (k : ℕ) → k < words_in sorts → 0 < length sorts
some_value [] k h = absurd (omega (arith, h))
some_value (s ∷ sorts) k h = omega arith

pub below_all : (sorts : List Sort) (n k : ℕ) → n ≡ length sorts → k < words_in sorts → k < first_index sorts n
below_all sorts n k e h = subst (λ (m : ℕ). k < m) (sym (ap (first_index sorts) e ∙ first_past sorts)) h

pub from_none : (sorts : List Sort) (k : ℕ) → first_index sorts 0 ≤ k
from_none sorts k = omega (arith, first_none sorts)

pub found : (sorts : List Sort) (low high k : ℕ) → high ≡ suc low → first_index sorts low ≤ k → k < first_index sorts high → low ≡ value_of_word sorts k
found sorts low high k e from below = sym (owner_is sorts low k from (subst (λ (n : ℕ). k < first_index sorts n) e below))
