-- Tokens that write no number of a width, and lines that write no vector.
use Rattle.std.proofs.Common.{◌≡◌, ◌≢◌, ℕ, ◌^◌, ◌<◌, ◌≤◌, Bool, true, false, cond, subst, ◌==◌, List, [], ◌∷◌, ◌++◌, decimal, Some, None, refl, sym, ap, ◌∙◌, inl, inr, arith}
use Rattle.std.proofs.lemmas.Bool.{or_parts, or_from, and_parts, ne_eqb, eq-eqb, false≢true}
use Rattle.std.proofs.Math.Pow.{pow_mono}
use Rattle.base.specs.Lines.{HasNone}
use Rattle.base.specs.declared.operators.Unary.{Unary}
use Rattle.base.specs.declared.operators.Binary.{Binary}
use Rattle.base.specs.Widths.{is_reduction, is_test, unary_width, binary_width}
use Rattle.vectors.specs.declared.lines.Vector.TheVariants as vector
use Rattle.vectors.specs.Vectors.{IsVector, numbers}
use Rattle.base.specs.Decimals.{number_of, is_digit, are_digits, is_decimal, capped_value}
use Rattle.base.proofs.DecimalLemmas.{digit_range, decimal_are_digits, number_of-decimal, chosen}

-- ---- cuts

head_is : (b c : ℕ) (bs cs : List ℕ) → b ∷ bs ≡ c ∷ cs → b ≡ c
head_is b c bs cs e = cc

tail_is : (b c : ℕ) (bs cs : List ℕ) → b ∷ bs ≡ c ∷ cs → bs ≡ cs
tail_is b c bs cs e = cc

-- what stands before the first byte of a kind, and what stands behind it
pub same_cut : (byte : ℕ) (front rest front' rest' : List ℕ) → HasNone byte front → HasNone byte front' → front ++ byte ∷ rest ≡ front' ++ byte ∷ rest' → (front ≡ front') × (rest ≡ rest')
same_cut byte [] rest [] rest' h k e = (refl, tail_is byte byte rest rest' e)
same_cut byte [] rest (c ∷ cs) rest' h k e =
    let is : byte ≡ c = head_is byte c rest (cs ++ byte ∷ rest') e in
    absurd (false≢true (sym (or_parts (c == byte) _ k).0 ∙ eq-eqb c byte (sym is)))
same_cut byte (b ∷ bs) rest [] rest' h k e =
    let is : b ≡ byte = head_is b byte (bs ++ byte ∷ rest) rest' e in
    absurd (false≢true (sym (or_parts (b == byte) _ h).0 ∙ eq-eqb b byte is))
same_cut byte (b ∷ bs) rest (c ∷ cs) rest' h k e =
    let is : b ≡ c = head_is b c (bs ++ byte ∷ rest) (cs ++ byte ∷ rest') e in
    let more = same_cut byte bs rest cs rest' (or_parts (b == byte) _ h).1 (or_parts (c == byte) _ k).1 (tail_is b c _ _ e) in
    let behind : bs ≡ cs = more.0 in
    (cc, more.1)

-- ---- decimals

digits_have_none : (bytes : List ℕ) → are_digits bytes ≡ true → HasNone 32 bytes
digits_have_none [] h = refl
digits_have_none (b ∷ bs) h =
    let parts = and_parts (is_digit b) (are_digits bs) h in
    let range = digit_range b parts.0 in
    let other : b ≢ 32 = omega arith in
    or_from _ _ (ne_eqb b 32 other) (digits_have_none bs parts.1)

decimal_is_decimal : (n : ℕ) → n < 2 ^ 64 → is_decimal (decimal n) ≡ true
unfolding number_of
decimal_is_decimal n lt =
    elim (chosen (is_decimal (decimal n)) (Some (capped_value (decimal n))) None (Some n) (number_of-decimal n lt)) [
      | inl e ↦ e.0
      | inr e ↦ absurd cc
    ]

-- a decimal has no space
pub decimal_has_none : (n : ℕ) → n < 2 ^ 64 → HasNone 32 (decimal n)
decimal_has_none n lt = digits_have_none (decimal n) (decimal_are_digits (decimal n) (decimal_is_decimal n lt))

some_is : (m n : ℕ) → Some m ≡ Some n → m ≡ n
some_is m n e = cc

-- a number below 2 ^ 64 has a decimal of its own
pub same_decimal : (m n : ℕ) → m < 2 ^ 64 → n < 2 ^ 64 → decimal m ≡ decimal n → m ≡ n
same_decimal m n lm ln e = some_is m n (sym (number_of-decimal m lm) ∙ (ap number_of e ∙ number_of-decimal n ln))

-- ---- what stands first on a line

-- a token before the first space, and a decimal before it
pub first_token : (line token behind rest : List ℕ) (n : ℕ) → n < 2 ^ 64 → line ≡ token ++ 32 ∷ behind → HasNone 32 token → line ≡ decimal n ++ 32 ∷ rest → (token ≡ decimal n) × (behind ≡ rest)
first_token line token behind rest n lt cut none e = same_cut 32 token behind (decimal n) rest none (decimal_has_none n lt) (sym cut ∙ e)

-- two decimals before it
pub first_number : (line behind rest : List ℕ) (m n : ℕ) → m < 2 ^ 64 → n < 2 ^ 64 → line ≡ decimal m ++ 32 ∷ behind → line ≡ decimal n ++ 32 ∷ rest → (m ≡ n) × (behind ≡ rest)
first_number line behind rest m n lm ln cut e =
    let same = first_token line (decimal m) behind rest n ln cut (decimal_has_none m lm) e in
    (same_decimal m n lm ln same.0, same.1)

-- ---- widths

-- a word of a width has 64 bits
pub below : (w n : ℕ) → w ≤ 64 → n < 2 ^ w → n < 2 ^ 64
below w n h lt = let p = pow_mono {i = w} {j = 64} h in omega arith

pub width_fits : (n : ℕ) → n ≤ 64 → n < 2 ^ 64
width_fits n h = omega arith

one_or : (b : Bool) (n : ℕ) → 1 ≤ n → n ≤ 64 → (1 ≤ cond b 1 n) × (cond b 1 n ≤ 64)
one_or true n low high = (omega arith, omega arith)
one_or false n low high = (low, high)

pub unary_range : (op : Unary) (n : ℕ) → 1 ≤ n → n ≤ 64 → (1 ≤ unary_width op n) × (unary_width op n ≤ 64)
unary_range op n low high = one_or (is_reduction op) n low high

pub binary_range : (op : Binary) (n : ℕ) → 1 ≤ n → n ≤ 64 → (1 ≤ binary_width op n) × (binary_width op n ≤ 64)
binary_range op n low high = one_or (is_test op) n low high

-- ---- vectors of equal numbers

pub same_left : (op : Binary) (n a m b r : ℕ) → a ≡ m → IsVector (vector.Binary op n a b r) → IsVector (vector.Binary op n m b r)
same_left op n a m b r e v = let P : ℕ → Type 0 = λ x. IsVector (vector.Binary op n x b r) in subst P e v

-- a vector whose width stands first is none where the rest is none of that width
pub none_unary : (line behind : List ℕ) (op : Unary) (m : ℕ) → ((a r : ℕ) → IsVector (vector.Unary op m a r) → behind ≢ decimal a ++ 32 ∷ decimal r) → m ≤ 64 → line ≡ decimal m ++ 32 ∷ behind
    → (n a r : ℕ) → IsVector (vector.Unary op n a r) → line ≢ numbers (vector.Unary op n a r)
none_unary line behind op m none fits is n a r v e =
    let same = first_number line behind (decimal a ++ 32 ∷ decimal r) m n (width_fits m fits) (width_fits n v.1) is e in
    let P : ℕ → Type 0 = λ x. IsVector (vector.Unary op x a r) in
    none a r (subst P (sym same.0) v) same.1

pub none_binary : (line behind : List ℕ) (op : Binary) (m : ℕ) → ((a b r : ℕ) → IsVector (vector.Binary op m a b r) → behind ≢ decimal a ++ 32 ∷ (decimal b ++ 32 ∷ decimal r)) → m ≤ 64 → line ≡ decimal m ++ 32 ∷ behind
    → (n a b r : ℕ) → IsVector (vector.Binary op n a b r) → line ≢ numbers (vector.Binary op n a b r)
none_binary line behind op m none fits is n a b r v e =
    let same = first_number line behind (decimal a ++ 32 ∷ (decimal b ++ 32 ∷ decimal r)) m n (width_fits m fits) (width_fits n v.1) is e in
    let P : ℕ → Type 0 = λ x. IsVector (vector.Binary op x a b r) in
    none a b r (subst P (sym same.0) v) same.1
