-- Laws of words as signed numbers, and of the word of a whole number. A whole number z is up z less down z.
use Rattle.std.proofs.Common.{◌≡◌, ℕ, zero, suc, ◌+◌, ◌-◌, ◌*◌, ◌/◌, ◌%◌, ◌^◌, ◌<◌, ◌≤◌, ◌⊎◌, ◌↔◌, Bool, true, false, ℤ, pos, negsuc, neg_ℤ, ◌+ℤ◌, ◌-ℤ◌, ◌*ℤ◌, int_lt, refl, sym, ap, subst, ◌∙◌, ⊎_elim, arith}
use Rattle.std.proofs.Math.Nat.{mod-lt, mod-eq_of_lt, add-mul-mod_self_right}
use Rattle.std.proofs.lemmas.Nat.{pow_pos}
use Rattle.std.proofs.lemmas.Int.{ints}
use Rattle.std.proofs.lemmas.Bool.{cases_lt, or_parts, or_from}
use Rattle.std.proofs.lemmas.Bool.Decides.{nat_tests}
use borrow.Author.Differences.{up, down}
use Rattle.base.specs.Word.{bit_number}
use Rattle.base.specs.Signed.{signed, modulo, wrapped, overflows}

-- a test whose number is 0 is false
pub bit_number_zero : (t : Bool) → bit_number t ≡ 0 → t ≡ false
bit_number_zero true e = absurd (omega arith)
bit_number_zero false e = refl

-- half of the words of a width
pub half : (n : ℕ) → 1 ≤ n → 2 ^ n ≡ 2 * 2 ^ (n - 1)
half zero h = absurd (omega arith)
half (suc n) h = let e : suc n - 1 ≡ n = omega arith in rw e (omega arith)

-- a word of the lower half stands for itself, and one of the upper half for what it lacks of all words, negated
pub signed_low : (n x : ℕ) → x < 2 ^ (n - 1) → signed n x ≡ pos x
signed_low n x p = grind (arith, nat_tests)

pub signed_high : (n x : ℕ) → 2 ^ (n - 1) ≤ x → signed n x ≡ pos x -ℤ pos (2 ^ n)
signed_high n x p = grind (arith, nat_tests)

pub signed_is : (n x : ℕ) → 1 ≤ n → x < 2 ^ n
    → ((x < 2 ^ (n - 1)) × (up (signed n x) ≡ x) × (down (signed n x) ≡ 0))
    ⊎ ((2 ^ (n - 1) ≤ x) × (up (signed n x) ≡ 0) × (down (signed n x) + x ≡ 2 ^ n))
signed_is n x h p = grind (arith, nat_tests, ints)

-- what is left of a whole number by a divisor is below the divisor
pub modulo_below : (z : ℤ) (m : ℕ) → 0 < m → modulo z m < m
modulo_below (pos a) m h = mod-lt a h
modulo_below (negsuc a) m h = omega arith

-- the word of a whole number is a word
pub wrapped_below : (n : ℕ) (z : ℤ) → wrapped n z < 2 ^ n
wrapped_below n z = modulo_below z (2 ^ n) (pow_pos n)

-- two whole numbers that differ by some times a divisor
pub record Same (m : ℕ) (y z : ℤ) : Type 0 where
  pub less : ℕ
  pub more : ℕ
  pub same : up y + down z + less * m ≡ up z + down y + more * m

-- a number that differs from z by some times m, from 0 to m less one, is what is left of z
modulo_from : (z : ℤ) (m r p q : ℕ) → r < m → up z + p * m ≡ down z + r + q * m → modulo z m ≡ r
modulo_from (pos a) m r p q h e =
    let wide : a + p * m ≡ r + q * m = omega arith in
    sym (add-mul-mod_self_right a p m) ∙ ap (λ k. k % m) wide ∙ add-mul-mod_self_right r q m ∙ mod-eq_of_lt h
modulo_from (negsuc a) m r zero q h e = absurd (omega arith)
modulo_from (negsuc a) m r (suc p) q h e =
    let low : m - 1 - r < m = omega arith in
    let wide : a + q * m ≡ m - 1 - r + p * m = omega arith in
    let rest = sym (add-mul-mod_self_right a q m) ∙ ap (λ k. k % m) wide ∙ add-mul-mod_self_right (m - 1 - r) p m ∙ mod-eq_of_lt low in
    omega (arith, rest)

-- what is left of a number differs from it by some times the divisor
pub same_left : (z : ℤ) (m : ℕ) → 0 < m → Same m (pos (modulo z m)) z
same_left (pos a) m h = record { less = a / m; more = 0; same = omega arith }
same_left (negsuc a) m h = record { less = 0; more = a / m + 1; same = omega arith }

-- two such numbers leave the same
pub same_modulo : (y z : ℤ) (m : ℕ) → 0 < m → Same m y z → modulo y m ≡ modulo z m
same_modulo y z m h s =
    let l = same_left z m h in
    modulo_from y m (modulo z m) (s.less + l.more) (s.more + l.less) (modulo_below z m h) (omega (arith, s.same, l.same))

-- sums, differences and products of such numbers are such numbers
pub same_sum : (m : ℕ) (a b c d : ℤ) → Same m a b → Same m c d → Same m (a +ℤ c) (b +ℤ d)
same_sum m a b c d s t = record { less = s.less + t.less; more = s.more + t.more; same = omega (arith, ints) }

pub same_difference : (m : ℕ) (a b c d : ℤ) → Same m a b → Same m c d → Same m (a -ℤ c) (b -ℤ d)
same_difference m a b c d s t = record { less = s.less + t.more; more = s.more + t.less; same = omega (arith, ints) }

pub same_product : (m : ℕ) (a b c d : ℤ) → Same m a b → Same m c d → Same m (a *ℤ c) (b *ℤ d)
same_product m a b c d s t = record {
  less = s.less * up c + s.more * down c + t.less * up b + t.more * down b;
  more = s.more * up c + s.less * down c + t.more * up b + t.less * down b;
  same = omega (arith, ints, ap (λ k. k * up c) s.same, ap (λ k. k * down c) s.same, ap (λ k. k * up b) t.same, ap (λ k. k * down b) t.same);
}

-- a word and the number that it stands for
pub same_signed : (n x : ℕ) → Same (2 ^ n) (signed n x) (pos x)
same_signed n x = ⊎_elim
    (λ (p : x < 2 ^ (n - 1)). rw (signed_low n x p) (record { less = 0; more = 0; same = omega arith }))
    (λ (p : 2 ^ (n - 1) ≤ x). rw (signed_high n x p) (record { less = 1; more = 0; same = omega (arith, ints) }))
    (cases_lt x (2 ^ (n - 1)))

-- the words of two such numbers are one
pub same_word : (n : ℕ) (y z : ℤ) → Same (2 ^ n) y z → wrapped n y ≡ wrapped n z
same_word n y z s = same_modulo y z (2 ^ n) (pow_pos n) s

-- the word of a number is that of the number and some times all words, and the word of a word's number is the word
pub wrapped_again : (n : ℕ) (z t : ℤ) → wrapped n (z +ℤ t *ℤ pos (2 ^ n)) ≡ wrapped n z
wrapped_again n z t = same_word n (z +ℤ t *ℤ pos (2 ^ n)) z (record { less = down t; more = up t; same = omega (arith, ints) })

pub wrapped-signed : (n x : ℕ) → x < 2 ^ n → wrapped n (signed n x) ≡ x
wrapped-signed n x p = same_word n (signed n x) (pos x) (same_signed n x) ∙ mod-eq_of_lt p

-- a number that does not overflow is in the range of the numbers that words stand for
pub overflows_out : (n : ℕ) (z : ℤ) → overflows n z ≡ false → (down z ≤ up z + 2 ^ (n - 1)) × (up z < down z + 2 ^ (n - 1))
overflows_out n z e =
    omega (arith, ints, or_parts (int_lt z (neg_ℤ (pos (2 ^ (n - 1))))) (int_lt (pos (2 ^ (n - 1) - 1)) z) e, pow_pos (n - 1))

pub overflows_in : (n : ℕ) (z : ℤ) → down z ≤ up z + 2 ^ (n - 1) → up z < down z + 2 ^ (n - 1) → overflows n z ≡ false
overflows_in n z h k =
    let above : false ≡ int_lt z (neg_ℤ (pos (2 ^ (n - 1)))) = omega (arith, ints) in
    let below : false ≡ int_lt (pos (2 ^ (n - 1) - 1)) z = omega (arith, ints) in
    or_from _ _ (sym above) (sym below)

-- the word of a number that does not overflow stands for it
pub wrapped_stands : (n : ℕ) (z : ℤ) → 1 ≤ n → overflows n z ≡ false → signed n (wrapped n z) ≡ z
wrapped_stands n (pos a) h e =
    let fits = overflows_out n (pos a) e in
    let whole : a % 2 ^ n ≡ a = mod-eq_of_lt (omega (arith, half n h)) in
    rw whole (signed_low n a (omega arith))
wrapped_stands n (negsuc a) h e =
    let fits = overflows_out n (negsuc a) e in
    let whole : a % 2 ^ n ≡ a = mod-eq_of_lt (omega (arith, half n h)) in
    rw whole (signed_high n (2 ^ n - 1 - a) (omega (arith, half n h)) ∙ omega (arith, ints, half n h))

-- each word stands for a number that does not overflow
pub signed_fits : (n x : ℕ) → 1 ≤ n → x < 2 ^ n → overflows n (signed n x) ≡ false
signed_fits n x h p =
    overflows_in n (signed n x) (omega (arith, half n h, signed_is n x h p)) (omega (arith, half n h, signed_is n x h p, pow_pos (n - 1)))

-- so a number overflows exactly where its word does not stand for it
pub stands_exactly : (n : ℕ) (z : ℤ) → 1 ≤ n → (bit_number (overflows n z) ≡ 0) ↔ (signed n (wrapped n z) ≡ z)
stands_exactly n z h = (
  λ e. wrapped_stands n z h (bit_number_zero (overflows n z) e),
  λ e. ap bit_number (subst (λ (y : ℤ). overflows n y ≡ false) e (signed_fits n (wrapped n z) h (wrapped_below n z))),
)
