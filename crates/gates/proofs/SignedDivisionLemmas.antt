-- Quotients and remainders of signed numbers by those of their sizes, and the gates that make them.
use Rattle.std.proofs.Common.{◌≡◌, ◌≢◌, ℕ, zero, suc, ◌+◌, ◌-◌, ◌*◌, ◌/◌, ◌%◌, ◌^◌, ◌<◌, ◌≤◌, Bool, true, false, ◌==◌, if◌then◌else◌, List, length, get_or, subst, ℤ, pos, negsuc, int_lt, int_div, int_rem, unsigned_abs, refl, sym, ap, ap₂, ◌∙◌, arith}
use Rattle.std.proofs.Math.Nat.{mod-eq_of_lt, mod-eq-sub-mul-div, mod-lt, div-le_self}
use Rattle.std.proofs.lemmas.Nat.{pow_pos}
use Rattle.std.proofs.lemmas.Bool.{ne_eqb, cond-false}
use Rattle.std.proofs.lemmas.Bool.Decides.{nat_tests}
use Rattle.std.proofs.lemmas.Int.{ints}
use Rattle.base.specs.declared.operators.Unary.TheVariants as unary
use Rattle.base.specs.Operator.{ones, unary_value, udiv, urem, sdiv, srem}
use Rattle.base.specs.Signed.{signed, wrapped}
use Rattle.base.proofs.DivisionLemmas.{truncated_rest}
use Rattle.base.proofs.SignedLaws.{half, signed_low, signed_is}
use Rattle.base.specs.Literal.{Valuation, literal_value}
use Rattle.aiger.specs.Net.{Net}
use Rattle.gates.specs.Connect.{differ}
use Rattle.gates.specs.Division.{MakesDivision}
use Rattle.gates.specs.Made.{Grows, MakesLiteral, MakesWord, word_value}
use Rattle.gates.proofs.GrowthLemmas.{Grows-weaker, Grows-trans, Satisfies-earlier, All-defined-grown}
use Rattle.gates.proofs.BitListLemmas.{MakesWord-same, MakesWord-weaker, MakesWord-of_word, word_value-below}
use Rattle.gates.proofs.WindowLemmas.{sign-zero, sign-one}
use Rattle.gates.proofs.SizeLemmas.{is_negative, with_sign, sign_is, negated_word, size_is, size_below}

-- the word of a number of a sign and a size is the size, negated where the sign is
wrapped-with_sign : (n k : ℕ) (t : Bool) → k < 2 ^ n → (if t then unary_value unary.Neg n k else k) ≡ wrapped n (with_sign t k)
wrapped-with_sign n k true below = ap (wrapped n) (omega (arith, ints))
wrapped-with_sign n k false below = sym (mod-eq_of_lt below)

-- quotients rounded towards zero, and their remainders, by signs and sizes
quotient_signs : (y z : ℤ) → int_div y z ≡ with_sign (differ (is_negative y) (is_negative z)) (unsigned_abs y / unsigned_abs z)
quotient_signs (pos a) (pos b) = refl
quotient_signs (pos a) (negsuc b) = refl
quotient_signs (negsuc a) (pos b) = refl
quotient_signs (negsuc a) (negsuc b) = refl

remainder_signs : (y z : ℤ) → int_rem y z ≡ with_sign (is_negative y) (unsigned_abs y % unsigned_abs z)
remainder_signs (pos a) (pos b) = refl
remainder_signs (pos a) (negsuc b) = refl
remainder_signs (negsuc a) (pos b) = refl
remainder_signs (negsuc a) (negsuc b) = refl

-- only zero has the size zero
pub size_some : (n b : ℕ) → 1 ≤ n → b < 2 ^ n → b ≢ 0 → 0 < unsigned_abs (signed n b)
size_some n b some below other = omega (arith, ints, signed_is n b some below)

-- zero's size
zero_size : (n : ℕ) → unsigned_abs (signed n 0) ≡ 0
zero_size n = ap unsigned_abs (signed_low n 0 (pow_pos (n - 1)))

-- the sign of zero
zero_sign : (n : ℕ) (y : Bool) → (y ≡ true → 2 ^ (n - 1) ≤ 0) → y ≡ false
zero_sign n true high = absurd (omega (arith, high refl, pow_pos (n - 1)))
zero_sign n false high = refl

-- quotients of sizes by a number that is not 0
udiv_some : (n a b : ℕ) → 0 < b → udiv n a b ≡ a / b
udiv_some n a b some = cond-false (b == 0) _ _ (ne_eqb b 0 (λ is. absurd (omega arith)))

urem_some : (a b : ℕ) → 0 < b → urem a b ≡ a % b
urem_some a (suc b) some = cond-false (suc b == 0) _ _ (ne_eqb (suc b) 0 (λ is. absurd (omega arith))) ∙ sym (mod-eq-sub-mul-div a (suc b))
urem_some a zero some = absurd (omega arith)

-- the quotient of sizes, negated where the signs differ
quotient_by_zero : (n a : ℕ) (x : Bool) → 1 ≤ n → is_negative (signed n a) ≡ x → (if x then unary_value unary.Neg n (ones n) else ones n) ≡ (if int_lt (signed n a) (pos 0) then 1 else ones n)
quotient_by_zero n a x some is = by_sign x (signed n a) is
  where
    by_sign : (x : Bool) (z : ℤ) → is_negative z ≡ x → (if x then unary_value unary.Neg n (ones n) else ones n) ≡ (if int_lt z (pos 0) then 1 else ones n)
    by_sign true (pos k) is = absurd (cc)
    by_sign true (negsuc k) is = negated_word n (ones n) 1 (omega (arith, half n some, pow_pos (n - 1))) (omega (arith, pow_pos n))
    by_sign false (pos k) is = let above : int_lt (pos k) (pos 0) ≡ false = grind (arith, nat_tests, ints) in sym (cond-false (int_lt (pos k) (pos 0)) 1 (ones n) above)
    by_sign false (negsuc k) is = absurd (cc)

pub quotient_signed : (n a b : ℕ) (x y : Bool) → 1 ≤ n → a < 2 ^ n → b < 2 ^ n → (x ≡ false → a < 2 ^ (n - 1)) → (x ≡ true → 2 ^ (n - 1) ≤ a) → (y ≡ false → b < 2 ^ (n - 1)) → (y ≡ true → 2 ^ (n - 1) ≤ b)
    → (if differ x y then unary_value unary.Neg n (udiv n (unsigned_abs (signed n a)) (unsigned_abs (signed n b))) else udiv n (unsigned_abs (signed n a)) (unsigned_abs (signed n b))) ≡ sdiv n a b
quotient_signed n a zero x y some a_below b_below low_a high_a low_b high_b =
    let no_sign : differ x y ≡ x = ap (differ x) (zero_sign n y high_b) ∙ unsigned x in
    ap₂ (λ (t : Bool) (k : ℕ). if t then unary_value unary.Neg n (udiv n (unsigned_abs (signed n a)) k) else udiv n (unsigned_abs (signed n a)) k) no_sign (zero_size n)
    ∙ quotient_by_zero n a x some (sign_is n a x a_below low_a high_a)
  where
    unsigned : (x : Bool) → differ x false ≡ x
    unsigned true = refl
    unsigned false = refl
quotient_signed n a (suc b) x y some a_below b_below low_a high_a low_b high_b =
    let p = unsigned_abs (signed n a) in
    let q = unsigned_abs (signed n (suc b)) in
    let divisor : 0 < q = size_some n (suc b) some b_below (λ is. absurd (omega arith)) in
    let below : p / q < 2 ^ n = omega (arith, div-le_self p q, size_below n a some a_below) in
    let signs : int_div (signed n a) (signed n (suc b)) ≡ with_sign (differ x y) (p / q) =
    quotient_signs (signed n a) (signed n (suc b)) ∙ ap₂ (λ s t. with_sign (differ s t) (p / q)) (sign_is n a x a_below low_a high_a) (sign_is n (suc b) y b_below low_b high_b)
    in
    ap (λ k. if differ x y then unary_value unary.Neg n k else k) (udiv_some n p q divisor)
    ∙ wrapped-with_sign n (p / q) (differ x y) below ∙ ap (wrapped n) (sym signs)
    ∙ sym (cond-false (suc b == 0) _ _ (ne_eqb (suc b) 0 (λ is. absurd (omega arith))))

-- the remainder of sizes, negated where the dividend's sign is
pub remainder_signed : (n a b : ℕ) (x : Bool) → 1 ≤ n → a < 2 ^ n → b < 2 ^ n → (x ≡ false → a < 2 ^ (n - 1)) → (x ≡ true → 2 ^ (n - 1) ≤ a)
    → (if x then unary_value unary.Neg n (urem (unsigned_abs (signed n a)) (unsigned_abs (signed n b))) else urem (unsigned_abs (signed n a)) (unsigned_abs (signed n b))) ≡ srem n a b
remainder_signed n a zero x some a_below b_below low_a high_a =
    ap (λ (k : ℕ). if x then unary_value unary.Neg n (urem (unsigned_abs (signed n a)) k) else urem (unsigned_abs (signed n a)) k) (zero_size n)
    ∙ ap (λ (k : ℕ). if x then unary_value unary.Neg n k else k) (sym (size_is n a x some a_below low_a high_a)) ∙ back x low_a high_a
  where
    back : (x : Bool) → (x ≡ false → a < 2 ^ (n - 1)) → (x ≡ true → 2 ^ (n - 1) ≤ a)
        → (if x then unary_value unary.Neg n (if x then unary_value unary.Neg n a else a) else (if x then unary_value unary.Neg n a else a)) ≡ a
    back true low high =
        let least = high refl in
        let p = pow_pos (n - 1) in
        ap (unary_value unary.Neg n) (negated_word n a (2 ^ n - a) (omega arith) (omega arith)) ∙ negated_word n (2 ^ n - a) a a_below (omega arith)
    back false low high = refl
remainder_signed n a (suc b) x some a_below b_below low_a high_a =
    let p = unsigned_abs (signed n a) in
    let q = unsigned_abs (signed n (suc b)) in
    let divisor : 0 < q = size_some n (suc b) some b_below (λ is. absurd (omega arith)) in
    let below : p % q < 2 ^ n = omega (arith, mod-lt p divisor, size_below n (suc b) some b_below) in
    let signs : int_rem (signed n a) (signed n (suc b)) ≡ with_sign x (p % q) =
    remainder_signs (signed n a) (signed n (suc b)) ∙ ap (λ s. with_sign s (p % q)) (sign_is n a x a_below low_a high_a)
    in
    ap (λ k. if x then unary_value unary.Neg n k else k) (urem_some p q divisor)
    ∙ wrapped-with_sign n (p % q) x below
    ∙ ap (wrapped n) (sym (truncated_rest (signed n a) (signed n (suc b)) ∙ signs))
    ∙ sym (cond-false (suc b == 0) _ _ (ne_eqb (suc b) 0 (λ is. absurd (omega arith))))

-- the quotient and the remainder of two words that were made before
pub MakesWord-quotient : (n0 n1 n2 n3 : Net) (n : ℕ) (p q quotient remainder : List ℕ) (f h : Valuation → ℕ)
    → MakesWord n0 n1 (12 * n) n f p → MakesWord n1 n2 (12 * n) n h q → MakesDivision n2 n3 (12 * (length p * length p) + 12 * length p) p q quotient remainder
    → MakesWord n0 n3 (12 * (n * n) + 36 * n) n (λ v. udiv n (f v) (h v)) quotient
MakesWord-quotient n0 n1 n2 n3 n p q quotient remainder f h first second makes =
    let wide = first.wide in
    let division : MakesDivision n2 n3 (12 * (n * n) + 12 * n) p q quotient remainder = subst (λ (k : ℕ). MakesDivision n2 n3 (12 * (k * k) + 12 * k) p q quotient remainder) wide makes in
    record {
      grows = Grows-weaker n0 n3 (12 * n + (12 * n + (12 * (n * n) + 12 * n))) (12 * (n * n) + 36 * n) (omega arith)
          (Grows-trans n0 n1 n3 (12 * n) (12 * n + (12 * (n * n) + 12 * n)) first.grows (Grows-trans n1 n2 n3 (12 * n) (12 * (n * n) + 12 * n) second.grows division.grows));
      wide = division.quotient_wide ∙ wide;
      defined = division.quotient_defined;
      means = λ v s.
          let at_two = Satisfies-earlier n2 n3 (12 * (n * n) + 12 * n) division.grows v s in
          let at_one = Satisfies-earlier n1 n2 (12 * n) second.grows v at_two in
          division.quotient_means v s ∙ ap (λ k. udiv k (word_value v p) (word_value v q)) wide ∙ ap₂ (udiv n) (first.means v at_one) (second.means v at_two);
    }

pub MakesWord-remainder : (n0 n1 n2 n3 : Net) (n : ℕ) (p q quotient remainder : List ℕ) (f h : Valuation → ℕ)
    → MakesWord n0 n1 (12 * n) n f p → MakesWord n1 n2 (12 * n) n h q → MakesDivision n2 n3 (12 * (length p * length p) + 12 * length p) p q quotient remainder
    → MakesWord n0 n3 (12 * (n * n) + 36 * n) n (λ v. urem (f v) (h v)) remainder
MakesWord-remainder n0 n1 n2 n3 n p q quotient remainder f h first second makes =
    let quotients = MakesWord-quotient n0 n1 n2 n3 n p q quotient remainder f h first second makes in
    record {
      grows = quotients.grows;
      wide = makes.remainder_wide ∙ first.wide;
      defined = makes.remainder_defined;
      means = λ v s.
          let at_two = Satisfies-earlier n2 n3 (12 * (length p * length p) + 12 * length p) makes.grows v s in
          let at_one = Satisfies-earlier n1 n2 (12 * n) second.grows v at_two in
          makes.remainder_means v s ∙ ap₂ urem (first.means v at_one) (second.means v at_two);
    }

-- a word that was made before, negated where a literal is true
MakesWord-signed : (old mid new : Net) (m n negative : ℕ) (f : Valuation → ℕ) (word bits : List ℕ) → MakesWord old mid m n f word
    → MakesWord mid new (12 * length word) (length word) (λ v. if literal_value v negative then unary_value unary.Neg (length word) (word_value v word) else word_value v word) bits
    → MakesWord old new (m + 12 * n) n (λ v. if literal_value v negative then unary_value unary.Neg n (f v) else f v) bits
MakesWord-signed old mid new m n negative f word bits first changed =
    let second : MakesWord mid new (12 * n) n (λ v. if literal_value v negative then unary_value unary.Neg n (word_value v word) else word_value v word) bits =
    subst (λ (k : ℕ). MakesWord mid new (12 * k) k (λ v. if literal_value v negative then unary_value unary.Neg k (word_value v word) else word_value v word) bits) first.wide changed
    in
    MakesWord-of_word old mid new m (12 * n) n n f (λ v w. if literal_value v negative then unary_value unary.Neg n w else w) word bits first second

-- made before more gates
MakesWord-kept : (old mid new : Net) (m k n : ℕ) (f : Valuation → ℕ) (bits : List ℕ) → MakesWord old mid m n f bits → Grows mid new k → MakesWord old new (m + k) n f bits
MakesWord-kept old mid new m k n f bits makes more = record {
  grows = Grows-trans old mid new m k makes.grows more;
  wide = makes.wide;
  defined = All-defined-grown mid new k more bits makes.defined;
  means = λ v s. makes.means v (Satisfies-earlier mid new k more v s);
}

pub MakesWord-sdiv : (old n1 n2 new : Net) (n x y negative : ℕ) (a b quotient bits : List ℕ) → 1 ≤ n → length a ≡ n → length b ≡ n → x ≡ get_or a (n - 1) x → y ≡ get_or b (n - 1) y
    → MakesWord old n1 (12 * (n * n) + 36 * n) n (λ v. udiv n (unsigned_abs (signed n (word_value v a))) (unsigned_abs (signed n (word_value v b)))) quotient
    → MakesLiteral n1 n2 3 (λ v. differ (literal_value v x) (literal_value v y)) negative
    → MakesWord n2 new (12 * length quotient) (length quotient) (λ v. if literal_value v negative then unary_value unary.Neg (length quotient) (word_value v quotient) else word_value v quotient) bits
    → MakesWord old new (12 * (n * n) + 51 * n) n (λ v. sdiv n (word_value v a) (word_value v b)) bits
MakesWord-sdiv old n1 n2 new n x y negative a b quotient bits some in_a in_b x_is y_is divided test changed =
    let m = 12 * (n * n) + 36 * n in
    let kept = MakesWord-kept old n1 n2 m 3 n _ quotient divided test.grows in
    let whole = MakesWord-signed old n2 new (m + 3) n negative (λ v. udiv n (unsigned_abs (signed n (word_value v a))) (unsigned_abs (signed n (word_value v b)))) quotient bits kept changed in
    record {
      grows = Grows-weaker old new (m + 3 + 12 * n) (12 * (n * n) + 51 * n) (omega arith) whole.grows;
      wide = whole.wide;
      defined = whole.defined;
      means = λ v s.
          let before = Satisfies-earlier n2 new (12 * length quotient) changed.grows v s in
          let w = udiv n (unsigned_abs (signed n (word_value v a))) (unsigned_abs (signed n (word_value v b))) in
          whole.means v s ∙ ap (λ (t : Bool). if t then unary_value unary.Neg n w else w) (test.means v before)
          ∙ quotient_signed n (word_value v a) (word_value v b) (literal_value v x) (literal_value v y) some (word_value-below v a n in_a) (word_value-below v b n in_b)
          (sign-zero v a n x some in_a x_is) (sign-one v a n x some in_a x_is) (sign-zero v b n y some in_b y_is) (sign-one v b n y some in_b y_is);
    }

pub MakesWord-srem : (old mid new : Net) (n x : ℕ) (a b remainder bits : List ℕ) → 1 ≤ n → length a ≡ n → length b ≡ n → x ≡ get_or a (n - 1) x
    → MakesWord old mid (12 * (n * n) + 36 * n) n (λ v. urem (unsigned_abs (signed n (word_value v a))) (unsigned_abs (signed n (word_value v b)))) remainder
    → MakesWord mid new (12 * length remainder) (length remainder) (λ v. if literal_value v x then unary_value unary.Neg (length remainder) (word_value v remainder) else word_value v remainder) bits
    → MakesWord old new (12 * (n * n) + 48 * n) n (λ v. srem n (word_value v a) (word_value v b)) bits
MakesWord-srem old mid new n x a b remainder bits some in_a in_b x_is divided changed =
    let m = 12 * (n * n) + 36 * n in
    let whole = MakesWord-signed old mid new m n x (λ v. urem (unsigned_abs (signed n (word_value v a))) (unsigned_abs (signed n (word_value v b)))) remainder bits divided changed in
    MakesWord-weaker old new (m + 12 * n) (12 * (n * n) + 48 * n) n _ bits (omega arith)
    (MakesWord-same old new (m + 12 * n) n _ _ bits
    (λ v. remainder_signed n (word_value v a) (word_value v b) (literal_value v x) some (word_value-below v a n in_a) (word_value-below v b n in_b) (sign-zero v a n x some in_a x_is) (sign-one v a n x some in_a x_is))
    whole)
