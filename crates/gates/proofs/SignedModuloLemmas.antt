-- The remainder of a quotient rounded down, by that of the quotient rounded towards zero, and the gates that make it.
use Rattle.std.proofs.Common.{◌≡◌, ◌≢◌, ℕ, zero, suc, ◌+◌, ◌-◌, ◌*◌, ◌%◌, ◌^◌, ◌<◌, ◌≤◌, Bool, true, false, not, ◌&&◌, ◌==◌, inl, inr, List, length, get_or, subst, ℤ, pos, negsuc, neg_ℤ, ◌+ℤ◌, ◌-ℤ◌, ◌*ℤ◌, int_lt, int_rem, unsigned_abs, refl, sym, ap, ap₂, ◌∙◌, arith}
use Rattle.std.specs.Bool.{beq}
use Rattle.std.proofs.Math.Nat.{mod-eq_of_lt, zero-mod}
use Rattle.std.proofs.lemmas.Nat.{pow_pos}
use Rattle.std.proofs.lemmas.Bool.{ne_eqb, cond-false, eqb-true, eqb-false}
use Rattle.std.proofs.lemmas.Bool.Decides.{nat_tests}
use Rattle.std.proofs.lemmas.Int.{ints}
use Rattle.base.specs.Word.{bit_number}
use Rattle.base.specs.Operator.{srem, smod}
use Rattle.base.specs.Signed.{signed, wrapped, truncated, floored}
use Rattle.base.proofs.DivisionLemmas.{truncated_rest, floored_same, floored_other_sign}
use Rattle.base.proofs.DivisionLaws.{truncated_whole}
use Rattle.base.proofs.SignedLaws.{signed_low, same_signed, same_sum, same_word, wrapped_below, wrapped-signed}
use Rattle.base.specs.Literal.{literal_value}
use Rattle.aiger.specs.Net.{Net}
use Rattle.gates.specs.Connect.{differ}
use Rattle.gates.specs.Made.{MakesAnd, MakesLiteral, MakesWord, word_value}
use Rattle.gates.specs.Sums.{literal_number}
use Rattle.gates.proofs.GrowthLemmas.{Grows-weaker, Grows-trans, Satisfies-earlier}
use Rattle.gates.proofs.LiteralLemmas.{MakesLiteral-and, MakesLiteral-join, MakesLiteral-same}
use Rattle.gates.proofs.BitListLemmas.{MakesWord-weaker, MakesWord-of_word, word_value-below}
use Rattle.gates.proofs.WindowLemmas.{sign-zero, sign-one}
use Rattle.gates.proofs.SizeLemmas.{is_negative, sign_is}
use Rattle.gates.proofs.SignedDivisionLemmas.{size_some}

-- whether a number is below 0
below_zero : (z : ℤ) → int_lt z (pos 0) ≡ is_negative z
below_zero (pos a) = grind (arith, nat_tests, ints)
below_zero (negsuc a) = refl

-- a number that is not 0 and the opposite of a natural number is below 0
opposite : (k : ℕ) → neg_ℤ (pos k) ≢ pos 0 → is_negative (neg_ℤ (pos k)) ≡ true
opposite zero some = absurd (some refl)
opposite (suc k) some = refl

-- a remainder that is not 0 has the dividend's sign
rest_sign : (y z : ℤ) → int_rem y z ≢ pos 0 → is_negative (int_rem y z) ≡ is_negative y
rest_sign (pos a) (pos b) some = refl
rest_sign (pos a) (negsuc b) some = refl
rest_sign (negsuc a) (pos b) some = opposite (suc a % b) some
rest_sign (negsuc a) (negsuc b) some = opposite (suc a % suc b) some

-- two signs differ
differ_is : (x y : Bool) → not (beq x y) ≡ differ x y
differ_is true true = refl
differ_is true false = refl
differ_is false true = refl
differ_is false false = refl

signs_differ : (r z : ℤ) (x y d : Bool) → is_negative r ≡ x → is_negative z ≡ y → differ x y ≡ d → not (beq (int_lt r (pos 0)) (int_lt z (pos 0))) ≡ d
signs_differ r z x y d r_is z_is is = ap₂ (λ s t. not (beq s t)) (below_zero r ∙ r_is) (below_zero z ∙ z_is) ∙ differ_is x y ∙ is

-- the divisor is put to a remainder that is not 0, where the signs differ
divisor_added : (n w b : ℕ) (x y : Bool) (z d : ℤ) → w < 2 ^ n → signed n w ≡ int_rem z d → signed n b ≡ d → d ≢ pos 0 → is_negative z ≡ x → is_negative d ≡ y
    → (w + b * bit_number (not (w == 0) && differ x y)) % 2 ^ n ≡ wrapped n (z -ℤ d *ℤ floored z d)
divisor_added n w b x y z d below rest_is b_is some z_is d_is = by_tests (w == 0) (differ x y) refl refl
  where
    word_is : w ≡ wrapped n (int_rem z d)
    word_is = sym (wrapped-signed n w below) ∙ ap (wrapped n) rest_is

    kept : (w + b * 0) % 2 ^ n ≡ wrapped n (int_rem z d)
    kept = let plain : w + b * 0 ≡ w = omega arith in ap (λ k. k % 2 ^ n) plain ∙ mod-eq_of_lt below ∙ word_is

    is_some : (w == 0) ≡ false → int_rem z d ≢ pos 0
    is_some e = λ none. let zero_word : w ≡ 0 = word_is ∙ ap (wrapped n) none ∙ zero-mod (2 ^ n) in absurd (omega (arith, eqb-false w 0 e))

    is_none : (w == 0) ≡ true → int_rem z d ≡ pos 0
    is_none e = sym rest_is ∙ ap (signed n) (eqb-true w 0 e) ∙ signed_low n 0 (pow_pos (n - 1))

    by_tests : (t s : Bool) → (w == 0) ≡ t → differ x y ≡ s → (w + b * bit_number (not t && s)) % 2 ^ n ≡ wrapped n (z -ℤ d *ℤ floored z d)
    by_tests true s e is = kept ∙ ap (wrapped n) (floored_same z d some (inl (is_none e)))
    by_tests false false e is = kept ∙ ap (wrapped n) (floored_same z d some (inr (signs_differ _ _ x y false (rest_sign z d (is_some e) ∙ z_is) d_is is)))
    by_tests false true e is =
        let one : w + b * 1 ≡ w + b = omega arith in
        ap (λ k. k % 2 ^ n) one
        ∙ sym (same_word n (signed n w +ℤ signed n b) (pos w +ℤ pos b) (same_sum (2 ^ n) _ _ _ _ (same_signed n w) (same_signed n b)))
        ∙ ap₂ (λ r k. wrapped n (r +ℤ k)) rest_is b_is
        ∙ ap (wrapped n) (floored_other_sign z d some (is_some e) (signs_differ _ _ x y true (rest_sign z d (is_some e) ∙ z_is) d_is is))

-- the signed remainder of words as that of numbers
srem_rest : (n a b : ℕ) → 1 ≤ n → b < 2 ^ n → b ≢ 0 → signed n (srem n a b) ≡ int_rem (signed n a) (signed n b)
srem_rest n a b some below other = of_parts _ _ _ _ (truncated_whole n a b some below other) (truncated_rest (signed n a) (signed n b))
  where
    of_parts : (z p s r : ℤ) → z ≡ p +ℤ s → z -ℤ p ≡ r → s ≡ r
    of_parts z p s r whole rest = omega (arith, ints)

srem_below : (n a b : ℕ) → b ≢ 0 → srem n a b < 2 ^ n
srem_below n a b other =
    subst (λ k. k < 2 ^ n) (sym (cond-false (b == 0) _ _ (ne_eqb b 0 other))) (wrapped_below n (signed n a -ℤ signed n b *ℤ truncated (signed n a) (signed n b)))

-- so the remainder of a quotient rounded down
pub smod_is : (n a b : ℕ) (x y : Bool) → 1 ≤ n → a < 2 ^ n → b < 2 ^ n → (x ≡ false → a < 2 ^ (n - 1)) → (x ≡ true → 2 ^ (n - 1) ≤ a) → (y ≡ false → b < 2 ^ (n - 1)) → (y ≡ true → 2 ^ (n - 1) ≤ b)
    → (srem n a b + b * bit_number (not (srem n a b == 0) && differ x y)) % 2 ^ n ≡ smod n a b
smod_is n a zero x y some a_below b_below low_a high_a low_b high_b =
    let plain : a + 0 * bit_number (not (a == 0) && differ x y) ≡ a = omega arith in
    ap (λ k. k % 2 ^ n) plain ∙ mod-eq_of_lt a_below
smod_is n a (suc b) x y some a_below b_below low_a high_a low_b high_b =
    let other : suc b ≢ 0 = λ is. absurd (omega arith) in
    let divisor : signed n (suc b) ≢ pos 0 = λ is. absurd (omega (arith, ap unsigned_abs is, size_some n (suc b) some b_below other)) in
    divisor_added n (srem n a (suc b)) (suc b) x y (signed n a) (signed n (suc b)) (srem_below n a (suc b) other) (srem_rest n a (suc b) some b_below other) refl divisor
    (sign_is n a x a_below low_a high_a) (sign_is n (suc b) y b_below low_b high_b)
    ∙ sym (cond-false (suc b == 0) _ _ (ne_eqb (suc b) 0 other))

-- a literal that is true where a remainder is not 0 and two signs differ
pub MakesLiteral-rounded_down : (n0 n1 n2 n3 : Net) (x y some other l : ℕ) (rest : List ℕ) → MakesLiteral n0 n1 (length rest) (λ v. not (word_value v rest == 0)) some
    → MakesLiteral n1 n2 3 (λ v. differ (literal_value v x) (literal_value v y)) other → MakesAnd n2 n3 some other l
    → MakesLiteral n0 n3 (length rest + 4) (λ v. not (word_value v rest == 0) && differ (literal_value v x) (literal_value v y)) l
MakesLiteral-rounded_down n0 n1 n2 n3 x y some other l rest first second third =
    let joined = MakesLiteral-join n0 n1 n2 n3 (length rest) 3 1 some other l (λ v. not (word_value v rest == 0)) (λ v. differ (literal_value v x) (literal_value v y)) (λ s t. s && t) first second (MakesLiteral-and n2 n3 some other l third) in
    MakesLiteral-same n0 n3 (length rest + 3 + 1) (length rest + 4) l _ _ (omega arith) (λ v. refl) joined

-- a word added where a literal is true
pub MakesWord-added_where : (old mid new : Net) (n lit : ℕ) (rest b more bits : List ℕ) → length rest ≡ n
    → MakesWord old mid n n (λ v. word_value v b * literal_number v lit) more
    → MakesWord mid new (9 * length rest) (length rest) (λ v. (word_value v rest + word_value v more) % 2 ^ length rest) bits
    → MakesWord old new (10 * n) n (λ v. (word_value v rest + word_value v b * literal_number v lit) % 2 ^ n) bits
MakesWord-added_where old mid new n lit rest b more bits wide first added =
    let second : MakesWord mid new (9 * n) n (λ v. (word_value v rest + word_value v more) % 2 ^ n) bits =
    subst (λ (k : ℕ). MakesWord mid new (9 * k) k (λ v. (word_value v rest + word_value v more) % 2 ^ k) bits) wide added
    in
    MakesWord-weaker old new (n + 9 * n) (10 * n) n _ bits (omega arith)
    (MakesWord-of_word old mid new n (9 * n) n n (λ v. word_value v b * literal_number v lit) (λ v w. (word_value v rest + w) % 2 ^ n) more bits first second)

pub MakesWord-smod : (old n1 n2 new : Net) (n x y lit : ℕ) (a b rest bits : List ℕ) → 1 ≤ n → length a ≡ n → length b ≡ n → x ≡ get_or a (n - 1) x → y ≡ get_or b (n - 1) y
    → MakesWord old n1 (12 * (n * n) + 48 * n) n (λ v. srem n (word_value v a) (word_value v b)) rest
    → MakesLiteral n1 n2 (length rest + 4) (λ v. not (word_value v rest == 0) && differ (literal_value v x) (literal_value v y)) lit
    → MakesWord n2 new (10 * length rest) (length rest) (λ v. (word_value v rest + word_value v b * literal_number v lit) % 2 ^ length rest) bits
    → MakesWord old new (12 * (n * n) + 63 * n) n (λ v. smod n (word_value v a) (word_value v b)) bits
MakesWord-smod old n1 n2 new n x y lit a b rest bits some in_a in_b x_is y_is remainder moved added =
    let m = 12 * (n * n) + 48 * n in
    let test : MakesLiteral n1 n2 (n + 4) (λ v. not (word_value v rest == 0) && differ (literal_value v x) (literal_value v y)) lit =
    subst (λ (k : ℕ). MakesLiteral n1 n2 (k + 4) (λ v. not (word_value v rest == 0) && differ (literal_value v x) (literal_value v y)) lit) remainder.wide moved
    in
    let sum : MakesWord n2 new (10 * n) n (λ v. (word_value v rest + word_value v b * literal_number v lit) % 2 ^ n) bits =
    subst (λ (k : ℕ). MakesWord n2 new (10 * k) k (λ v. (word_value v rest + word_value v b * literal_number v lit) % 2 ^ k) bits) remainder.wide added
    in
    record {
      grows = Grows-weaker old new (m + ((n + 4) + 10 * n)) (12 * (n * n) + 63 * n) (omega arith)
          (Grows-trans old n1 new m ((n + 4) + 10 * n) remainder.grows (Grows-trans n1 n2 new (n + 4) (10 * n) test.grows sum.grows));
      wide = sum.wide;
      defined = sum.defined;
      means = λ v s.
          let at_two = Satisfies-earlier n2 new (10 * n) sum.grows v s in
          let at_one = Satisfies-earlier n1 n2 (n + 4) test.grows v at_two in
          let rest_is : word_value v rest ≡ srem n (word_value v a) (word_value v b) = remainder.means v at_one in
          sum.means v s
          ∙ ap (λ (t : Bool). (word_value v rest + word_value v b * bit_number t) % 2 ^ n) (test.means v at_two)
          ∙ ap (λ (w : ℕ). (w + word_value v b * bit_number (not (w == 0) && differ (literal_value v x) (literal_value v y))) % 2 ^ n) rest_is
          ∙ smod_is n (word_value v a) (word_value v b) (literal_value v x) (literal_value v y) some (word_value-below v a n in_a) (word_value-below v b n in_b)
          (sign-zero v a n x some in_a x_is) (sign-one v a n x some in_a x_is) (sign-zero v b n y some in_b y_is) (sign-one v b n y some in_b y_is);
    }
