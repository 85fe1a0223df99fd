-- Lines and their fields: what cutting gives of what was put together.
use Rattle.std.proofs.Common.{◌≡◌, ◌≢◌, ℕ, suc, ◌^◌, ◌<◌, true, ◌==◌, List, [], ◌∷◌, ◌++◌, map, decimal, Some, None, Result, Ok, refl, sym, ap, ◌∙◌, append_assoc, inl, inr, arith}
use Rattle.std.specs.List.{list_any, AllByRecursion}
use Rattle.std.proofs.lemmas.Bool.{or_parts, or_from, and_parts, ne_eqb, eq-eqb}
use Rattle.std.proofs.lemmas.List.Folds.{list_any-append}
use Rattle.base.specs.Lines.{HasNone, IsLine}
use Rattle.base.specs.Decimals.{number_of, is_decimal, is_digit, are_digits, capped_value}
use Rattle.base.proofs.DecimalLemmas.{digit_range, decimal_are_digits, number_of-decimal, chosen}
use Rattle.aigertext.specs.declared.fault.Why.{Why}
use Rattle.aigertext.specs.Ascii.{numbers_line}
use Rattle.aigertext.specs.Reading.{cut_at_byte, fields, line_at, lines_at}

-- bytes before the first of a kind are cut off
pub cut-found : (byte : ℕ) (front rest : List ℕ) → HasNone byte front → cut_at_byte byte (front ++ byte ∷ rest) ≡ Some (front, rest)
cut-found byte [] rest h = rw (eq-eqb byte byte refl) refl
cut-found byte (b ∷ bs) rest h =
    let parts = or_parts (b == byte) (list_any (λ c. c == byte) bs) h in
    rw (parts.0, cut-found byte bs rest parts.1) refl

-- a line without a space is one field
pub fields-one : (field : List ℕ) → HasNone 32 field → fields field ≡ field ∷ []
fields-one [] h = refl
fields-one (b ∷ bs) h =
    let parts = or_parts (b == 32) (list_any (λ c. c == 32) bs) h in
    rw (parts.0, fields-one bs parts.1) refl

-- a field before a space
pub fields-more : (field rest : List ℕ) → HasNone 32 field → fields (field ++ 32 ∷ rest) ≡ field ∷ fields rest
fields-more [] rest h = refl
fields-more (b ∷ bs) rest h =
    let parts = or_parts (b == 32) (list_any (λ c. c == 32) bs) h in
    rw (parts.0, fields-more bs rest parts.1) refl

-- digits have none of the bytes below them
digits_have_none : (byte : ℕ) (bytes : List ℕ) → byte < 48 → are_digits bytes ≡ true → HasNone byte bytes
digits_have_none byte [] small h = refl
digits_have_none byte (b ∷ bs) small h =
    let parts = and_parts (is_digit b) (are_digits bs) h in
    let range = digit_range b parts.0 in
    let other : b ≢ byte = omega arith in
    or_from _ _ (ne_eqb b byte other) (digits_have_none byte bs small parts.1)

decimal_is_decimal : (n : ℕ) → n < 2 ^ 64 → is_decimal (decimal n) ≡ true
unfolding number_of
decimal_is_decimal n lt =
    elim (chosen (is_decimal (decimal n)) (Some (capped_value (decimal n))) None (Some n) (number_of-decimal n lt)) [
      | inl e ↦ e.0
      | inr e ↦ absurd cc
    ]

-- a decimal has no byte below the digits: no space, no byte 10
pub decimal_has_none : (byte n : ℕ) → byte < 48 → n < 2 ^ 64 → HasNone byte (decimal n)
decimal_has_none byte n small lt = digits_have_none byte (decimal n) small (decimal_are_digits (decimal n) (decimal_is_decimal n lt))

-- a line of numbers without its byte 10
abbrev pub joined : List ℕ → List ℕ
joined [] = []
joined (n ∷ []) = decimal n
joined (n ∷ m ∷ ns) = decimal n ++ 32 ∷ joined (m ∷ ns)

pub numbers_line-joined : (ns : List ℕ) → numbers_line ns ≡ joined ns ++ 10 ∷ []
numbers_line-joined [] = refl
numbers_line-joined (n ∷ []) = refl
numbers_line-joined (n ∷ m ∷ ns) =
    ap (λ (l : List ℕ). decimal n ++ 32 ∷ l) (numbers_line-joined (m ∷ ns)) ∙ sym (append_assoc (decimal n) (32 ∷ joined (m ∷ ns)) (10 ∷ []))

-- numbers of 64 bits
abbrev pub AreSmall : List ℕ → Type 0
AreSmall ns = AllByRecursion (λ n. n < 2 ^ 64) ns

pub none_of_both : (byte : ℕ) (xs ys : List ℕ) → HasNone byte xs → HasNone byte ys → HasNone byte (xs ++ ys)
none_of_both byte xs ys h k = list_any-append (λ b. b == byte) xs ys ∙ or_from _ _ h k

pub joined_is_line : (ns : List ℕ) → AreSmall ns → IsLine (joined ns)
joined_is_line [] small = refl
joined_is_line (n ∷ []) small = decimal_has_none 10 n (omega arith) small.0
joined_is_line (n ∷ m ∷ ns) small =
    none_of_both 10 (decimal n) (32 ∷ joined (m ∷ ns)) (decimal_has_none 10 n (omega arith) small.0) (joined_is_line (m ∷ ns) small.1)

-- the fields of such a line are the decimals
pub fields-joined : (n : ℕ) (ns : List ℕ) → AreSmall (n ∷ ns) → fields (joined (n ∷ ns)) ≡ map decimal (n ∷ ns)
fields-joined n [] small = fields-one (decimal n) (decimal_has_none 32 n (omega arith) small.0)
fields-joined n (m ∷ ns) small =
    fields-more (decimal n) (joined (m ∷ ns)) (decimal_has_none 32 n (omega arith) small.0) ∙ ap (λ (l : List (List ℕ)). decimal n ∷ l) (fields-joined m ns small.1)

-- what a line says is read, and what stands behind it is left
pub line_read : {A : Type 0} (says : List ℕ → Result A Why) (line rest : List ℕ) (x : A) → IsLine line → says line ≡ Ok x → line_at says (line ++ 10 ∷ rest) ≡ Ok (x, rest)
line_read says line rest x h e = rw (cut-found 10 line rest h, e) refl

-- the same of a line of numbers
pub numbers_read : {A : Type 0} (says : List ℕ → Result A Why) (ns rest : List ℕ) (x : A) → AreSmall ns → says (joined ns) ≡ Ok x → line_at says (numbers_line ns ++ rest) ≡ Ok (x, rest)
numbers_read says ns rest x small e =
    let text : numbers_line ns ++ rest ≡ joined ns ++ 10 ∷ rest = ap (λ (l : List ℕ). l ++ rest) (numbers_line-joined ns) ∙ append_assoc (joined ns) (10 ∷ []) rest in
    ap (line_at says) text ∙ line_read says (joined ns) rest x (joined_is_line ns small) e

-- a line, and then the others
pub lines_step : {A S : Type 0} (says : S → List ℕ → Result A Why) (next : S → A → S) (s : S) (n : ℕ) (text after rest : List ℕ) (x : A) (xs : List A)
    → line_at (says s) text ≡ Ok (x, after) → lines_at says next (next s x) n after ≡ Ok (xs, rest) → lines_at says next s (suc n) text ≡ Ok (x ∷ xs, rest)
lines_step says next s n text after rest x xs one more = rw (one, more) refl
