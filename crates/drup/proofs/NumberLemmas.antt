-- What is kept of a number byte by byte is what its bytes write.
use Rattle.std.proofs.Common.{◌≡◌, ℕ, zero, suc, ◌+◌, ◌-◌, ◌*◌, ◌%◌, ◌^◌, ◌<◌, ◌≤◌, min, ◌==◌, nat_lt, true, false, ◌&&◌, List, [], ◌∷◌, ◌++◌, inl, inr, refl, sym, ap, ◌∙◌, arith}
use Rattle.std.specs.Str.{bytes_eq}
use Rattle.std.proofs.lemmas.Bool.{cases_lt, lt-ltb, le-ltb, ne_eqb, and_right}
use Rattle.std.proofs.Math.Nat.{mul_left_comm, min-eq_left, min-eq_right}
use Rattle.base.specs.Decimals.{is_nothing}
use Rattle.drup.specs.declared.number.Number.{Number}
use Rattle.drup.specs.declared.why.Why.TheVariants as why
use Rattle.drup.specs.Proofs.{Token, faulty}
use Rattle.drup.specs.BinaryProofs.{coded_number, last_byte, literal_numbered, number_said}
use Rattle.drup.specs.Numbers.{unit_behind, SpellsNumber}

-- ---- a byte more

pub more_value : (bytes : List ℕ) (b : ℕ) → coded_number (bytes ++ b ∷ []) ≡ coded_number bytes + (b % 128) * unit_behind bytes
more_value [] b = omega arith
more_value (x ∷ xs) b =
    let own = more_value xs b in
    let out : (b % 128) * (128 * unit_behind xs) ≡ 128 * ((b % 128) * unit_behind xs) = mul_left_comm (b % 128) 128 (unit_behind xs) in
    omega (arith, own, out)

pub more_unit : (bytes : List ℕ) (b : ℕ) → unit_behind (bytes ++ b ∷ []) ≡ 128 * unit_behind bytes
more_unit [] b = refl
more_unit (x ∷ xs) b = ap (λ (u : ℕ). 128 * u) (more_unit xs b)

some_unit : (bytes : List ℕ) → 1 ≤ unit_behind bytes
some_unit [] = omega arith
some_unit (x ∷ xs) = omega (arith, some_unit xs)

-- a product of what was cut at a bound, cut there again
capped : (c u m : ℕ) → min (c * min u m) m ≡ min (c * u) m
capped zero u m = omega arith
capped (suc c) u m =
    elim (cases_lt u m) [
      | inl low ↦ ap (λ (v : ℕ). min (suc c * v) m) (min-eq_left (omega (arith, low)))
      | inr high ↦
          let same : min u m ≡ m = min-eq_right high in
          let more : m ≤ suc c * m = omega arith in
          let most : m ≤ suc c * u = omega (arith, high) in
          ap (λ (v : ℕ). min (suc c * v) m) same ∙ min-eq_right more ∙ sym (min-eq_right most)
    ]

pub value_kept : (n : Number) (bytes : List ℕ) (b : ℕ) → SpellsNumber n bytes → min (n.value + min ((b % 128) * n.unit) (2 ^ 64 - 1)) (2 ^ 64 - 1) ≡ min (coded_number (bytes ++ b ∷ [])) (2 ^ 64 - 1)
value_kept n bytes b s =
    let part : min ((b % 128) * n.unit) (2 ^ 64 - 1) ≡ min ((b % 128) * unit_behind bytes) (2 ^ 64 - 1) =
    ap (λ (u : ℕ). min ((b % 128) * u) (2 ^ 64 - 1)) s.unit ∙ capped (b % 128) (unit_behind bytes) (2 ^ 64 - 1) in
    omega (arith, part, s.value, more_value bytes b)

pub spells_behind : (n : Number) (bytes : List ℕ) (b unit value : ℕ) → SpellsNumber n bytes → unit ≡ min (n.unit * 128) (2 ^ 64 - 1) → value ≡ min (coded_number (bytes ++ b ∷ [])) (2 ^ 64 - 1)
    → SpellsNumber (record { unit = unit; value = value }) (bytes ++ b ∷ [])
spells_behind n bytes b unit value s by is = record { unit = omega (arith, by, s.unit, more_unit bytes b); value = is }

-- ---- a byte alone

pub no_byte : (n : Number) (bytes : List ℕ) → SpellsNumber n bytes → (n.unit == 1) ≡ is_nothing bytes
no_byte n [] s = let one : n.unit ≡ 1 = s.unit in rw one refl
no_byte n (x ∷ xs) s =
    let many : n.unit ≡ min (128 * unit_behind xs) (2 ^ 64 - 1) = s.unit in
    ne_eqb n.unit 1 (λ e. omega (arith, many, some_unit xs, e))

no_bytes : (xs : List ℕ) (b : ℕ) → bytes_eq (xs ++ b ∷ []) [] ≡ false
no_bytes [] b = refl
no_bytes (x ∷ xs) b = refl

pub is_alone : (bytes : List ℕ) (b w : ℕ) → ((b == w) && is_nothing bytes) ≡ bytes_eq (bytes ++ b ∷ []) (w ∷ [])
is_alone [] b w = refl
is_alone (x ∷ xs) b w = and_right (b == w) false refl ∙ sym (and_right (x == w) (bytes_eq (xs ++ b ∷ []) []) (no_bytes xs b))

-- ---- the end of a number

pub last_of : (before : ℕ) (bytes : List ℕ) (b : ℕ) → last_byte before (bytes ++ b ∷ []) ≡ b
last_of before [] b = refl
last_of before (x ∷ xs) b = last_of x xs b

pub says_needless : (variables : ℕ) (bytes : List ℕ) (b : ℕ) → b ≡ 0 → faulty why.BadWord ≡ number_said variables (bytes ++ b ∷ [])
says_needless variables bytes b is =
    let last : last_byte 0 (bytes ++ b ∷ []) ≡ 0 = last_of 0 bytes b ∙ is in
    rw last refl

says_number : (variables : ℕ) (bytes : List ℕ) (b : ℕ) → b < 128 → (b == 0) ≡ false → number_said variables (bytes ++ b ∷ []) ≡ literal_numbered variables (coded_number (bytes ++ b ∷ []))
says_number variables bytes b low some =
    let whole : nat_lt 127 b ≡ false = le-ltb 127 b (omega (arith, low)) in
    rw (last_of 0 bytes b, whole, some) refl

literal_capped : (variables n : ℕ) → variables < 2147483647 → literal_numbered variables (min n (2 ^ 64 - 1)) ≡ literal_numbered variables n
literal_capped variables n few =
    elim (cases_lt n (2 ^ 64 - 1)) [
      | inl low ↦ ap (literal_numbered variables) (min-eq_left (omega (arith, low)))
      | inr high ↦ beyond (min n (2 ^ 64 - 1)) (omega (arith, high)) ∙ sym (beyond n (omega (arith, high)))
    ]
  where
    beyond : (m : ℕ) → 2 ^ 64 - 1 ≤ m → literal_numbered variables m ≡ faulty why.BadVariable
    beyond m high =
        let some : nat_lt m 2 ≡ false = le-ltb m 2 (omega (arith, high)) in
        let many : nat_lt (2 * variables + 1) m ≡ true = lt-ltb (2 * variables + 1) m (omega (arith, high, few)) in
        rw (some, many) refl

pub says_literal : (variables : ℕ) (bytes : List ℕ) (b n : ℕ) (t : Token) → variables < 2147483647 → b < 128 → (b == 0) ≡ false → t ≡ literal_numbered variables n → n ≡ min (coded_number (bytes ++ b ∷ [])) (2 ^ 64 - 1)
    → t ≡ number_said variables (bytes ++ b ∷ [])
says_literal variables bytes b n t few low some said is =
    said ∙ ap (literal_numbered variables) is ∙ literal_capped variables (coded_number (bytes ++ b ∷ [])) few ∙ sym (says_number variables bytes b low some)
