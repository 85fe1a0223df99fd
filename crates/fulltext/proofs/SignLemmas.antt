-- Minuses before tokens, taken away and put again.
use Rattle.std.proofs.Common.{◌≡◌, ℕ, zero, suc, ◌+◌, ◌-◌, ◌^◌, ◌<◌, ◌≤◌, Bool, true, false, cond, not, ◌&&◌, ◌||◌, nat_eq, List, [], ◌∷◌, ◌++◌, length, map, drop, Option, Some, None, decimal, refl, sym, ap, ap₂, subst, ◌∙◌, append_assoc, inl, inr, ◌⊎◌, arith}
use Rattle.std.specs.List.{AllByRecursion, list_all, list_any}
use Rattle.std.proofs.lemmas.Bool.{and_parts, and_from, and_left, or_parts, or_from, not-true, not_from_false, eqb-true, ne_eqb}
use Rattle.base.specs.Decimals.{is_digit, is_decimal, capped_value, number_of}
use Rattle.base.proofs.DecimalLemmas.{digit_range, chosen, decimal_are_digits, number_of-decimal, decimal_without}
use Rattle.btor2text.specs.Reading.{Tokens}
use Rattle.btor2text.specs.Tokens.{is_blank, begins_token, tokens}
use Rattle.btor2text.proofs.BoundLemmas.{IsId}
use Rattle.btor2.proofs.AcceptedLemmas.{Each}
use Rattle.fulltext.specs.Signs.{is_some_id, has_minus, with_sign, without_sign, signed, signed_behind, signs, unsigned, signs_behind, unsigned_behind, kept_signs}
use Rattle.fulltext.proofs.TokenLemmas.{IsWord, tokens_all}

-- ---- a token

minus_first : (token : List ℕ) → has_minus token ≡ true → (rest : List ℕ) × (token ≡ 45 ∷ rest)
unfolding has_minus
minus_first [] h = absurd (cc)
minus_first (b ∷ bs) h = (bs, ap (λ (c : ℕ). c ∷ bs) (eqb-true b 45 (and_parts (nat_eq b 45) _ h).0))

-- its minus put again
pub sign_again : (token : List ℕ) → with_sign (has_minus token) (without_sign (has_minus token) token) ≡ token
sign_again token = by (has_minus token) refl
  where
    by : (m : Bool) → has_minus token ≡ m → with_sign m (without_sign m token) ≡ token
    by true e = let parts = minus_first token e in ap (λ (t : List ℕ). 45 ∷ drop 1 t) parts.1 ∙ sym parts.1
    by false e = refl

no_minus : (token : List ℕ) → list_any (λ b. nat_eq b 45) token ≡ false → has_minus token ≡ false
unfolding has_minus
no_minus [] h = refl
no_minus (b ∷ bs) h = and_left (nat_eq b 45) _ (or_parts (nat_eq b 45) _ h).0

minus_on : (bs : List ℕ) (n : ℕ) → number_of bs ≡ Some n → 1 ≤ n → has_minus (45 ∷ bs) ≡ true
unfolding has_minus
minus_on bs n e some = ap is_some_id e ∙ ap not (ne_eqb n 0 (λ z. omega (arith, z, some)))

-- of the decimal of an id
pub id_sign : (m : Bool) (a : ℕ) → IsId a → has_minus (with_sign m (decimal a)) ≡ m
id_sign true a h = minus_on (decimal a) a (number_of-decimal a (omega (arith, h.1))) h.0
id_sign false a h = no_minus (decimal a) (decimal_without 45 a (omega arith) (omega (arith, h.1)))

pub id_unsigned : (m : Bool) (a : ℕ) → IsId a → without_sign (has_minus (with_sign m (decimal a))) (with_sign m (decimal a)) ≡ decimal a
id_unsigned m a h = ap (λ (s : Bool). without_sign s (with_sign m (decimal a))) (id_sign m a h) ∙ by m
  where
    by : (m : Bool) → without_sign m (with_sign m (decimal a)) ≡ decimal a
    by true = refl
    by false = refl

-- ---- tokens

pub signed_again : (n : ℕ) (ts : Tokens) → signed (signs n ts) (unsigned n ts) ≡ ts
signed_again zero ts = refl
signed_again (suc n) [] = refl
signed_again (suc n) (t ∷ ts) = ap₂ (λ (x : List ℕ) (xs : Tokens). x ∷ xs) (sign_again t) (signed_again n ts)

pub behind_again : (k n : ℕ) (ts : Tokens) → signed_behind k (signs_behind k n ts) (unsigned_behind k n ts) ≡ ts
behind_again zero n ts = signed_again n ts
behind_again (suc k) n [] = refl
behind_again (suc k) n (t ∷ ts) = ap (λ (xs : Tokens). t ∷ xs) (behind_again k n ts)

-- none has a minus
pub none_signed : (ms : List Bool) (ts : Tokens) → list_any (λ (m : Bool). m) ms ≡ false → signed ms ts ≡ ts
none_signed [] ts h = refl
none_signed (m ∷ ms) [] h = refl
none_signed (m ∷ ms) (t ∷ ts) h =
    let parts = or_parts m _ h in ap₂ (λ (x : List ℕ) (xs : Tokens). x ∷ xs) (ap (λ (s : Bool). with_sign s t) parts.0) (none_signed ms ts parts.1)

pub none_behind : (k : ℕ) (ms : List Bool) (ts : Tokens) → list_any (λ (m : Bool). m) ms ≡ false → signed_behind k ms ts ≡ ts
none_behind zero ms ts h = none_signed ms ts h
none_behind (suc k) ms [] h = refl
none_behind (suc k) ms (t ∷ ts) h = ap (λ (xs : Tokens). t ∷ xs) (none_behind k ms ts h)

-- minuses as they are kept are put as they were
pub kept_behind : (k : ℕ) (ms : List Bool) (ts : Tokens) → signed_behind k (kept_signs ms) ts ≡ signed_behind k ms ts
kept_behind k ms ts = by (list_any (λ (m : Bool). m) ms) refl
  where
    by : (b : Bool) → list_any (λ (m : Bool). m) ms ≡ b → signed_behind k (cond b ms []) ts ≡ signed_behind k ms ts
    by true e = refl
    by false e = none_behind k [] ts refl ∙ sym (none_behind k ms ts e)

-- those of a front stay there
pub signed_front : (ms : List Bool) (front rest : Tokens) → length ms ≤ length front → signed ms (front ++ rest) ≡ signed ms front ++ rest
signed_front [] front rest h = refl
signed_front (m ∷ ms) [] rest h = absurd (omega (arith, h))
signed_front (m ∷ ms) (t ∷ ts) rest h = ap (λ (xs : Tokens). with_sign m t ∷ xs) (signed_front ms ts rest (omega (arith, h)))

pub behind_front : (k : ℕ) (ms : List Bool) (front rest : Tokens) → k + length ms ≤ length front → signed_behind k ms (front ++ rest) ≡ signed_behind k ms front ++ rest
behind_front zero ms front rest h = signed_front ms front rest (omega (arith, h))
behind_front (suc k) ms [] rest h = absurd (omega (arith, h))
behind_front (suc k) ms (t ∷ ts) rest h = ap (λ (xs : Tokens). t ∷ xs) (behind_front k ms ts rest (omega (arith, h)))

-- how many they are
signs_few : (n : ℕ) (ts : Tokens) → length (signs n ts) ≤ n
signs_few zero ts = omega arith
signs_few (suc n) [] = omega arith
signs_few (suc n) (t ∷ ts) = omega (arith, signs_few n ts)

signs_all : (n : ℕ) (ts : Tokens) → n ≤ length (unsigned n ts) → length (signs n ts) ≡ n
signs_all zero ts h = refl
signs_all (suc n) [] h = absurd (omega (arith, h))
signs_all (suc n) (t ∷ ts) h = ap suc (signs_all n ts (omega (arith, h)))

pub behind_all : (k n : ℕ) (ts : Tokens) → k + n ≤ length (unsigned_behind k n ts) → length (signs_behind k n ts) ≡ n
behind_all zero n ts h = signs_all n ts (omega (arith, h))
behind_all (suc k) n [] h = absurd (omega (arith, h))
behind_all (suc k) n (t ∷ ts) h = behind_all k n ts (omega (arith, h))

-- ---- tokens of ids

-- minuses of ids, all told
abbrev pub filled : ℕ → List Bool → List Bool
filled zero ms = []
filled (suc n) [] = false ∷ filled n []
filled (suc n) (m ∷ ms) = m ∷ filled n ms

pub unsigned_ids : (ms : List Bool) (ids : List ℕ) (rest : Tokens) → Each IsId ids → length ms ≤ length ids → unsigned (length ids) (signed ms (map decimal ids) ++ rest) ≡ map decimal ids ++ rest
unsigned_ids ms [] rest h few = by ms few
  where
    by : (ms : List Bool) → length ms ≤ 0 → signed ms [] ++ rest ≡ rest
    by [] few = refl
    by (m ∷ ms) few = refl
unsigned_ids [] (a ∷ ids) rest h few = ap₂ (λ (x : List ℕ) (xs : Tokens). x ∷ xs) (id_unsigned false a h.0) (unsigned_ids [] ids rest h.1 (omega arith))
unsigned_ids (m ∷ ms) (a ∷ ids) rest h few = ap₂ (λ (x : List ℕ) (xs : Tokens). x ∷ xs) (id_unsigned m a h.0) (unsigned_ids ms ids rest h.1 (omega (arith, few)))

pub signs_ids : (ms : List Bool) (ids : List ℕ) (rest : Tokens) → Each IsId ids → signs (length ids) (signed ms (map decimal ids) ++ rest) ≡ filled (length ids) ms
signs_ids ms [] rest h = refl
signs_ids [] (a ∷ ids) rest h = ap₂ (λ (x : Bool) (xs : List Bool). x ∷ xs) (id_sign false a h.0) (signs_ids [] ids rest h.1)
signs_ids (m ∷ ms) (a ∷ ids) rest h = ap₂ (λ (x : Bool) (xs : List Bool). x ∷ xs) (id_sign m a h.0) (signs_ids ms ids rest h.1)

filled_same : (ms : List Bool) → filled (length ms) ms ≡ ms
filled_same [] = refl
filled_same (m ∷ ms) = ap (λ (xs : List Bool). m ∷ xs) (filled_same ms)

filled_none : (n : ℕ) → list_any (λ (m : Bool). m) (filled n []) ≡ false
filled_none zero = refl
filled_none (suc n) = filled_none n

pub kept_none : (n : ℕ) → kept_signs (filled n []) ≡ []
kept_none n = ap (λ (b : Bool). cond b (filled n []) []) (filled_none n)

pub kept_some : (n : ℕ) (ms : List Bool) → length ms ≡ n → list_any (λ (m : Bool). m) ms ≡ true → kept_signs (filled n ms) ≡ ms
kept_some n ms e any =
    let same : filled n ms ≡ ms = ap (λ (k : ℕ). filled k ms) (sym e) ∙ filled_same ms in
    ap kept_signs same ∙ ap (λ (b : Bool). cond b ms []) any

-- ---- a line without `-`

free_token : (token : List ℕ) → list_all (λ b. not (nat_eq b 45)) token ≡ true → list_any (λ b. nat_eq b 45) token ≡ false
free_token [] h = refl
free_token (b ∷ bs) h = let parts = and_parts (not (nat_eq b 45)) _ h in or_from (nat_eq b 45) _ (not-true (nat_eq b 45) parts.0) (free_token bs parts.1)

free_line : (line : List ℕ) → list_any (λ b. nat_eq b 45) line ≡ false → list_all (λ b. is_blank b || not (nat_eq b 45)) line ≡ true
free_line [] h = refl
free_line (b ∷ bs) h = let parts = or_parts (nat_eq b 45) _ h in and_from (is_blank b || not (nat_eq b 45)) _ (by (is_blank b) (nat_eq b 45) parts.0) (free_line bs parts.1)
  where
    by : (c d : Bool) → d ≡ false → (c || not d) ≡ true
    by true d e = refl
    by false d e = ap not e

unsigned_free : (n : ℕ) (ts : Tokens) → AllByRecursion (λ t. list_all (λ b. not (nat_eq b 45)) t ≡ true) ts → (unsigned n ts ≡ ts) × (list_any (λ (m : Bool). m) (signs n ts) ≡ false)
unsigned_free zero ts h = (refl, refl)
unsigned_free (suc n) [] h = (refl, refl)
unsigned_free (suc n) (t ∷ ts) h =
    let own = no_minus t (free_token t h.0) in
    let rest = unsigned_free n ts h.1 in
    (ap₂ (λ (x : List ℕ) (xs : Tokens). x ∷ xs) (ap (λ (s : Bool). without_sign s t) own) rest.0, or_from (has_minus t) _ own rest.1)

behind_free : (k n : ℕ) (ts : Tokens) → AllByRecursion (λ t. list_all (λ b. not (nat_eq b 45)) t ≡ true) ts → (unsigned_behind k n ts ≡ ts) × (list_any (λ (m : Bool). m) (signs_behind k n ts) ≡ false)
behind_free zero n ts h = unsigned_free n ts h
behind_free (suc k) n [] h = (refl, refl)
behind_free (suc k) n (t ∷ ts) h = let rest = behind_free k n ts h.1 in (ap (λ (xs : Tokens). t ∷ xs) rest.0, rest.1)

pub line_free : (line : List ℕ) (k n : ℕ) → list_any (λ b. nat_eq b 45) line ≡ false → (unsigned_behind k n (tokens line) ≡ tokens line) × (kept_signs (signs_behind k n (tokens line)) ≡ [])
line_free line k n h =
    let free = behind_free k n (tokens line) (tokens_all (λ b. not (nat_eq b 45)) line (free_line line h)) in
    (free.0, ap (λ (b : Bool). cond b (signs_behind k n (tokens line)) []) free.1)

-- ---- no operands

pub none_counted : (k : ℕ) (ts : Tokens) → (unsigned_behind k 0 ts ≡ ts) × (signs_behind k 0 ts ≡ [])
none_counted zero ts = (refl, refl)
none_counted (suc k) [] = (refl, refl)
none_counted (suc k) (t ∷ ts) = let rest = none_counted k ts in (ap (λ (xs : Tokens). t ∷ xs) rest.0, rest.1)

-- ---- words without their minus

some_number : (o : Option ℕ) → is_some_id o ≡ true → (n : ℕ) × (o ≡ Some n)
some_number None h = absurd (cc)
some_number (Some n) h = (n, refl)

no_decimal : is_decimal [] ≡ true → ⊥
unfolding is_decimal
no_decimal h = cc

digit_begins : (bs : List ℕ) (n : ℕ) → number_of bs ≡ Some n → list_any is_blank bs ≡ false → begins_token bs ≡ true
unfolding number_of
digit_begins [] n e h = elim (chosen (is_decimal []) (Some (capped_value [])) None (Some n) e) [ inl x ↦ absurd (no_decimal x.0) | inr x ↦ absurd (cc (x.1)) ]
digit_begins (b ∷ bs) n e h =
    elim (chosen (is_decimal (b ∷ bs)) (Some (capped_value (b ∷ bs))) None (Some n) e) [
      | inl x ↦ let range = digit_range b (and_parts (is_digit b) _ (decimal_are_digits (b ∷ bs) x.0)).0 in not_from_false (is_blank b || nat_eq b 59) (or_from (is_blank b) (nat_eq b 59) (or_parts (is_blank b) _ h).0 (ne_eqb b 59 (λ z. omega (arith, z, range.1, range.0))))
      | inr x ↦ absurd (cc (x.1))
    ]

pub unsigned_word : (token : List ℕ) → IsWord token → IsWord (without_sign (has_minus token) token)
unfolding has_minus
unsigned_word [] w = w
unsigned_word (b ∷ bs) w = by (nat_eq b 45 && is_some_id (number_of bs)) refl
  where
    by : (m : Bool) → (nat_eq b 45 && is_some_id (number_of bs)) ≡ m → IsWord (without_sign m (b ∷ bs))
    by false e = w
    by true e =
        let number = some_number (number_of bs) (and_parts (nat_eq b 45) _ e).1 in
        let blanks = (or_parts (is_blank b) _ w.blanks).1 in
        record { blanks = blanks; begins = digit_begins bs number.0 number.1 blanks }
