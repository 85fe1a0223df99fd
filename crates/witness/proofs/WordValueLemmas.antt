-- The word that the digits of a value write.
use Rattle.std.proofs.Common.{◌≡◌, ℕ, suc, ◌+◌, ◌*◌, ◌≤◌, ◌^◌, ◌==◌, Bool, true, false, ◌&&◌, List, [], ◌∷◌, ◌++◌, Ok, Err, length, map, reverse, length-append, refl, sym, ap, ◌∙◌, arith, inl, inr, if◌then◌else◌}
use Rattle.std.specs.List.{list_any, list_all}
use Rattle.std.proofs.Math.Nat.{pow-suc}
use Rattle.std.proofs.lemmas.Bool.{cases_Bool, and_parts, and_from, ne_eqb, eq-eqb}
use Rattle.std.proofs.lemmas.List.{reverse-append, map-append}
use Rattle.std.proofs.lemmas.List.Folds.{list_all-append}
use Rattle.base.specs.Word.{word, bit_number}
use Rattle.base.proofs.DecimalLemmas.{none_of}
use Rattle.witness.specs.declared.why.Why.TheVariants as why
use Rattle.witness.specs.Admits.{is_value_byte, value_of, is_bit, is_one_bit}
use Rattle.witness.specs.WordValues.{IsValueOf}

-- ---- the word of such bytes

bit_small : (b : Bool) → bit_number b ≤ 1
bit_small true = omega arith
bit_small false = omega arith

pub bit_most : (bit b : ℕ) → bit ≡ bit_number (is_one_bit b) → bit ≤ 1
bit_most bit b is = omega (arith, is, bit_small (is_one_bit b))

pub known_nothing : IsValueOf 0 []
known_nothing = record { small = omega arith; known = refl; word = refl }

reversed : (bits : List Bool) (b : Bool) → word (reverse (bits ++ b ∷ [])) ≡ bit_number b + 2 * word (reverse bits)
reversed bits b = ap word (reverse-append bits (b ∷ []))

pub known_more : (x bit : ℕ) (bytes : List ℕ) (b : ℕ) → bit ≡ bit_number (is_one_bit b) → is_bit b ≡ true → IsValueOf x bytes → IsValueOf (x * 2 + bit) (bytes ++ b ∷ [])
known_more x bit bytes b is known h =
    let long : length (bytes ++ b ∷ []) ≡ suc (length bytes) = omega (arith, length-append bytes (b ∷ [])) in
    let double : 2 ^ length (bytes ++ b ∷ []) ≡ 2 ^ length bytes * 2 = rw long (pow-suc 2 (length bytes)) in
    let below = h.small in
    let was = h.word in
    record {
      small = omega (arith, double, bit_most bit b is, below);
      known = list_all-append is_bit bytes (b ∷ []) ∙ and_from (list_all is_bit bytes) (is_bit b && true) h.known (and_from (is_bit b) true known refl);
      word = omega (arith, is, was) ∙ (sym (reversed (map is_one_bit bytes) (is_one_bit b)) ∙ ap (λ (l : List Bool). word (reverse l)) (sym (map-append is_one_bit bytes (b ∷ []))));
    }

-- ---- values

pub other_length : (width : ℕ) (bytes : List ℕ) → (length bytes ≡ width → ⊥) → value_of width bytes ≡ Err why.BadValue
unfolding value_of
other_length width bytes other = rw (ne_eqb (length bytes) width other) refl

known_is_value : (b : ℕ) → is_bit b ≡ true → is_value_byte b ≡ true
known_is_value b known =
    elim (cases_Bool (b == 48)) [
      | inl none ↦ rw none refl
      | inr other ↦ rw (other, rw other at known) refl
    ]

pub known_not_x : (b : ℕ) → is_bit b ≡ true → (b == 120) ≡ false
known_not_x b known = ne_eqb b 120 (λ e. absurd (cc (rw e at known)))

pub known_are_values : (bytes : List ℕ) → list_all is_bit bytes ≡ true → list_all is_value_byte bytes ≡ true
known_are_values [] known = refl
known_are_values (b ∷ bytes) known =
    let parts = and_parts (is_bit b) (list_all is_bit bytes) known in
    and_from (is_value_byte b) (list_all is_value_byte bytes) (known_is_value b parts.0) (known_are_values bytes parts.1)

pub value_known : (width x : ℕ) (bytes : List ℕ) → length bytes ≡ width → IsValueOf x bytes → value_of width bytes ≡ Ok x
unfolding value_of
value_known width x bytes long h =
    rw (eq-eqb (length bytes) width long, known_are_values bytes h.known, none_of is_bit 120 bytes known_not_x h.known) (ap Ok (sym h.word))

-- values of which not all are `0` and `1` have an `x`
pub some_x : (bytes : List ℕ) → list_all is_value_byte bytes ≡ true → list_all is_bit bytes ≡ false → list_any (λ b. b == 120) bytes ≡ true
some_x [] values unknown = absurd (cc unknown)
some_x (b ∷ bytes) values unknown =
    let parts = and_parts (is_value_byte b) (list_all is_value_byte bytes) values in
    elim (cases_Bool (is_bit b)) [
      | inl known ↦ rw (known_not_x b known) (some_x bytes parts.1 (rw known at unknown))
      | inr other ↦
          elim (cases_Bool (b == 120)) [
            | inl is ↦ rw is refl
            | inr not ↦ absurd (cc (value_is_known b parts.0 not, other))
          ]
    ]
  where
    value_is_known : (b : ℕ) → is_value_byte b ≡ true → (b == 120) ≡ false → is_bit b ≡ true
    value_is_known b value not =
        elim (cases_Bool (b == 48)) [
          | inl none ↦ rw none refl
          | inr other ↦
              elim (cases_Bool (b == 49)) [
                | inl one ↦ rw (other, one) refl
                | inr neither ↦ absurd (cc (rw (other, neither, not) at value))
              ]
        ]

pub value_unknown : (width : ℕ) (bytes : List ℕ) → length bytes ≡ width → list_all is_bit bytes ≡ false → value_of width bytes ≡ Err (if list_all is_value_byte bytes then why.Undetermined else why.BadValue)
unfolding value_of
value_unknown width bytes long unknown =
    elim (cases_Bool (list_all is_value_byte bytes)) [
      | inl values ↦ rw (eq-eqb (length bytes) width long, values, some_x bytes values unknown) refl
      | inr other ↦ rw (eq-eqb (length bytes) width long, other) refl
    ]
