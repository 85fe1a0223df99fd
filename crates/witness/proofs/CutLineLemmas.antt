-- What is kept of a line with more bytes, and a line of a witness of a circuit that is judged as its first bytes are.
use Rattle.std.proofs.Common.{◌≡◌, ℕ, zero, suc, ◌-◌, ◌<◌, ◌≤◌, ◌^◌, ◌==◌, nat_le, Bool, true, false, ◌&&◌, ◌||◌, get_or, if◌then◌else◌, List, [], ◌∷◌, ◌++◌, Option, Some, None, Result, Ok, Err, map, length, take, drop, codes, length-append, refl, sym, ap, ap₂, subst, ◌∙◌, inl, inr, arith}
use Rattle.std.specs.List.{list_all}
use Rattle.std.specs.Str.{bytes_eq}
use Rattle.std.proofs.lemmas.Bool.{cases_Bool, cases_lt, eq-eqb, ne_eqb, le-ltb}
use Rattle.std.proofs.lemmas.List.{take_all, take-append-drop, drop_all, length-take-le}
use Rattle.std.proofs.lemmas.List.Folds.{list_all-append}
use Rattle.std.proofs.Math.Seq.{take-nil, drop-nil}
use Rattle.std.proofs.Math.Bool.{and-false}
use Rattle.base.specs.Decimals.{is_digit, are_digits, is_decimal, capped_value, number_of}
use Rattle.aiger.specs.Circuit.{Circuit}
use Rattle.witness.specs.declared.why.Why.{Why}
use Rattle.witness.specs.declared.why.Why.TheVariants as why
use Rattle.witness.specs.Readings.{is_nothing}
use Rattle.witness.specs.Admits.{Claim, is_value_byte, is_bit, is_one_bit}
use Rattle.witness.specs.BitAdmits.{judged_claim, claim_at, bits_at, BitPlace, AtHeader, AtClaim, AtInitial, AtFirst, AtLater, AtDone, BitRead, bit_admit_at, bit_admit}
use Rattle.witness.specs.CutLines.{CutLine, cut_of, no_byte, AreFront}
use Rattle.witness.specs.ClaimScans.{behind_first}
use Rattle.witness.specs.BitStands.{line_room}
use Rattle.witness.proofs.StepWords.{claim_with}
use Rattle.base.proofs.DecimalLemmas.{none_of}
use Rattle.witness.proofs.WordValueLemmas.{some_x, known_not_x, known_are_values}
use Rattle.witness.proofs.KeptLineLemmas.{nothing_front, word_kept, word_alike, short_index}

-- ---- more bytes

drop_more : (n : ℕ) (line part : List ℕ) → drop n (line ++ part) ≡ drop n line ++ drop (n - length line) part
drop_more zero line part =
    let none : 0 ≡ 0 - length line = omega arith in
    ap (λ (m : ℕ). line ++ drop m part) none
drop_more (suc n) [] part =
    let all : suc n ≡ suc n - 0 = omega arith in
    ap (λ (m : ℕ). drop m part) all
drop_more (suc n) (b ∷ line) part =
    let left : n - length line ≡ suc n - suc (length line) = omega arith in
    drop_more n line part ∙ ap (λ (m : ℕ). drop n line ++ drop m part) left

take_more : (n : ℕ) (line part : List ℕ) → take n (line ++ part) ≡ take n line ++ take (n - length line) part
take_more zero line part =
    let none : 0 ≡ 0 - length line = omega arith in
    ap (λ (m : ℕ). take m part) none
take_more (suc n) [] part =
    let all : suc n ≡ suc n - 0 = omega arith in
    ap (λ (m : ℕ). take m part) all
take_more (suc n) (b ∷ line) part =
    let left : n - length line ≡ suc n - suc (length line) = omega arith in
    ap (λ (l : List ℕ). b ∷ l) (take_more n line part ∙ ap (λ (m : ℕ). take n line ++ take m part) left)

length_front : (n : ℕ) (line : List ℕ) → n - length (take n line) ≡ n - length line
length_front zero line = omega arith
length_front (suc n) [] = refl
length_front (suc n) (b ∷ line) =
    let rest = length_front n line in
    omega (arith, rest)

pub cut_more : (old : CutLine) (room : ℕ) (line part front behind : List ℕ) → old ≡ cut_of room line → front ≡ take (old.room - length old.bytes) part → behind ≡ drop (old.room - length old.bytes) part
    → record { room = old.room; bytes = old.bytes ++ front; digits = old.digits && are_digits behind } ≡ cut_of room (line ++ part)
cut_more old room line part front behind is at past =
    let left : old.room - length old.bytes ≡ room - length line = ap (λ (k : CutLine). k.room - length k.bytes) is ∙ length_front room line in
    ap (λ (k : CutLine). record { room = k.room; bytes = k.bytes ++ front; digits = k.digits && are_digits behind }) is
    ∙ ap₂ (λ (l : List ℕ) (d : Bool). record { room = room; bytes = l; digits = d })
    (ap (λ (l : List ℕ). take room line ++ l) (at ∙ ap (λ (n : ℕ). take n part) left) ∙ sym (take_more room line part))
    (ap (λ (l : List ℕ). are_digits (drop room line) && are_digits l) (past ∙ ap (λ (n : ℕ). drop n part) left) ∙ sym (ap are_digits (drop_more room line part) ∙ list_all-append is_digit (drop room line) (drop (room - length line) part)))

pub cut_nothing : (room : ℕ) → no_byte room ≡ cut_of room []
cut_nothing room = ap₂ (λ (l m : List ℕ). record { room = room; bytes = l; digits = are_digits m }) (sym (take-nil room)) (sym (drop-nil room))

pub nothing_cut : (room : ℕ) (line : List ℕ) → 0 < room → is_nothing (take room line) ≡ is_nothing line
nothing_cut zero line some = absurd (omega (arith, some))
nothing_cut (suc n) line some = nothing_front n line

-- ---- which bytes are enough

pub whole_front : (room : ℕ) (line : List ℕ) → AreFront room line true line
whole_front room line = record { same = refl; others = refl }

pub cut_front : (room : ℕ) (line : List ℕ) → AreFront room (take room line) (are_digits (drop room line)) line
cut_front room line =
    let kept = length_most room line in
    record { same = take_all room (take room line) kept; others = rw (drop_all room (take room line) kept) (and_true (are_digits (drop room line))) }
  where
    length_most : (n : ℕ) (l : List ℕ) → length (take n l) ≤ n
    length_most zero l = omega arith
    length_most (suc n) [] = omega arith
    length_most (suc n) (b ∷ l) = let most = length_most n l in omega (arith, most)

    and_true : (b : Bool) → (b && true) ≡ b
    and_true true = refl
    and_true false = refl

-- ---- claims

-- what is claimed by a byte and a number
abbrev pub claim_by : ℕ → Option ℕ → Option Claim
claim_by a o = if a == 98 then claim_with false o else (if a == 106 then claim_with true o else None)

pub no_number : (bads a : ℕ) → judged_claim bads (claim_by a None) ≡ Err why.BadClaim
no_number bads a =
    elim (a == 98) as (λ b. judged_claim bads (if b then None else (if a == 106 then None else None)) ≡ Err why.BadClaim) [
      | true ↦ refl
      | false ↦ elim (a == 106) as (λ b. judged_claim bads (if b then None else None) ≡ Err why.BadClaim) [ true ↦ refl | false ↦ refl ]
    ]

-- two numbers of none of so many
two_numbers : (bads a n m : ℕ) → bads ≤ n → bads ≤ m → judged_claim bads (claim_by a (Some n)) ≡ judged_claim bads (claim_by a (Some m))
two_numbers bads a n m one other =
    elim (a == 98) as (λ b. judged_claim bads (if b then claim_with false (Some n) else (if a == 106 then claim_with true (Some n) else None)) ≡ judged_claim bads (if b then claim_with false (Some m) else (if a == 106 then claim_with true (Some m) else None))) [
      | true ↦ rw (le-ltb n bads one, le-ltb m bads other) refl
      | false ↦ elim (a == 106) as (λ b. judged_claim bads (if b then claim_with true (Some n) else None) ≡ judged_claim bads (if b then claim_with true (Some m) else None)) [ true ↦ refl | false ↦ refl ]
    ]

pub claimed_at : (bads : ℕ) (line : List ℕ) (o : Option ℕ) (first : ℕ) → first ≡ get_or line 0 0 → number_of (behind_first line) ≡ o → claim_at bads line ≡ judged_claim bads (claim_by first o)
claimed_at bads [] o first at is = sym (ap (λ (a : ℕ). judged_claim bads (claim_by a o)) at ∙ nothing o)
  where
    nothing : (o : Option ℕ) → judged_claim bads (claim_by 0 o) ≡ Err why.BadClaim
    nothing o = refl
claimed_at bads (a ∷ tail) o first at is = ap₂ (λ (a : ℕ) (o : Option ℕ). judged_claim bads (claim_by a o)) (sym at) is

-- more digits behind two, or other bytes
decimal_more : (tail more : List ℕ) → 1 < length tail → is_decimal (tail ++ more) ≡ (is_decimal tail && are_digits more)
unfolding is_decimal
decimal_more [] more two = absurd (omega (arith, two))
decimal_more (d ∷ []) more two = absurd (omega (arith, two))
decimal_more (d ∷ e ∷ ds) more two =
    let digits = list_all-append is_digit (d ∷ e ∷ ds) more in
    elim (d == 48) as (λ z. (if z then false else (nat_le 49 d && nat_le d 57 && are_digits (d ∷ e ∷ (ds ++ more)))) ≡ ((if z then false else (nat_le 49 d && nat_le d 57 && are_digits (d ∷ e ∷ ds))) && are_digits more)) [
      | true ↦ refl
      | false ↦ ap (λ (b : Bool). nat_le 49 d && nat_le d 57 && b) digits ∙ together (nat_le 49 d) (nat_le d 57) (are_digits (d ∷ e ∷ ds)) (are_digits more)
    ]
  where
    together : (a b x y : Bool) → (a && b && (x && y)) ≡ ((a && b && x) && y)
    together true true x y = refl
    together true false x y = refl
    together false b x y = refl

number_is : (token : List ℕ) (b : Bool) → is_decimal token ≡ b → number_of token ≡ (if b then Some (capped_value token) else None)
unfolding number_of
number_is token b e = ap (λ (b : Bool). if b then Some (capped_value token) else None) e

module _ (bads : ℕ) (small : bads < 2 ^ 64) where
  -- a number of more than 20 digits is of none
  long_is_none : (token : List ℕ) (n : ℕ) → 20 < length token → number_of token ≡ Some n → bads ≤ n
  long_is_none token n long is =
      elim (cases_lt n (2 ^ 64 - 1)) [
        | inl below ↦ let short = short_index token n is below in absurd (omega (arith, short, long))
        | inr above ↦ omega (arith, above, small)
      ]

  abbrev claims : ℕ → Option ℕ → Result ℕ Why
  claims a o = judged_claim bads (claim_by a o)

  long_claim : (a : ℕ) (tail more : List ℕ) → 20 < length tail → claim_at bads (a ∷ (tail ++ more)) ≡ (if are_digits more then claim_at bads (a ∷ tail) else Err why.BadClaim)
  long_claim a tail more long =
      elim (cases_Bool (are_digits more)) [
        | inl all ↦ rw all (by all (is_decimal tail) refl)
        | inr none ↦ rw none (ap (claims a) (number_is (tail ++ more) false (decimal ∙ rw none (and-false (is_decimal tail)))) ∙ no_number bads a)
      ]
    where
      decimal : is_decimal (tail ++ more) ≡ (is_decimal tail && are_digits more)
      decimal = decimal_more tail more (omega (arith, long))

      by : are_digits more ≡ true → (b : Bool) → is_decimal tail ≡ b → claims a (number_of (tail ++ more)) ≡ claims a (number_of tail)
      by all false e = ap (claims a) (number_is (tail ++ more) false (decimal ∙ rw e refl)) ∙ sym (ap (claims a) (number_is tail false e))
      by all true e =
          let one = number_is (tail ++ more) true (decimal ∙ rw (e, all) refl) in
          let other = number_is tail true e in
          let longer : 20 < length (tail ++ more) = omega (arith, long, length-append tail more) in
          ap (claims a) one ∙ (two_numbers bads a (capped_value (tail ++ more)) (capped_value tail) (long_is_none (tail ++ more) (capped_value (tail ++ more)) longer one) (long_is_none tail (capped_value tail) long other) ∙ sym (ap (claims a) other))

  module _ (room : ℕ) (enough : 21 < room) where
    claim_front : (line : List ℕ) → claim_at bads line ≡ (if are_digits (drop room line) then claim_at bads (take room line) else Err why.BadClaim)
    claim_front line =
        elim (cases_lt room (length line)) [
          | inl long ↦ parts (take room line) (drop room line) (length-take-le room line (omega (arith, long))) (take-append-drop room line)
          | inr short ↦ rw (drop_all room line short, take_all room line short) refl
        ]
      where
        parts : (front more : List ℕ) → length front ≡ room → front ++ more ≡ line → claim_at bads line ≡ (if are_digits more then claim_at bads front else Err why.BadClaim)
        parts [] more many is = absurd (omega (arith, many, enough))
        parts (a ∷ tail) more many is = ap (claim_at bads) (sym is) ∙ long_claim a tail more (omega (arith, many, enough))

    module _ (line : List ℕ) (digits : Bool) (whole : List ℕ) (h : AreFront room line digits whole) where
      pub claim_enough : digits ≡ true → claim_at bads line ≡ claim_at bads whole
      claim_enough e =
          let others : are_digits (drop room line) ≡ are_digits (drop room whole) = subst (λ (b : Bool). (b && are_digits (drop room line)) ≡ are_digits (drop room whole)) e h.others in
          claim_front line ∙ (ap₂ (λ (b : Bool) (l : List ℕ). if b then claim_at bads l else Err why.BadClaim) others h.same ∙ sym (claim_front whole))

      pub claim_spoiled : digits ≡ false → claim_at bads whole ≡ Err why.BadClaim
      claim_spoiled e =
          let others : false ≡ are_digits (drop room whole) = subst (λ (b : Bool). (b && are_digits (drop room line)) ≡ are_digits (drop room whole)) e h.others in
          claim_front whole ∙ ap (λ (b : Bool). if b then claim_at bads (take room whole) else Err why.BadClaim) (sym others)

-- ---- other lines

pub other_count : (count : ℕ) (line : List ℕ) → (length line ≡ count → ⊥) → bits_at count line ≡ Err why.BadValue
other_count count line ne = rw (ne_eqb (length line) count ne) refl

pub no_bits : (count : ℕ) (line : List ℕ) → length line ≡ count → list_all is_bit line ≡ false → bits_at count line ≡ Err (if list_all is_value_byte line then why.Undetermined else why.BadValue)
no_bits count line many none =
    let long = eq-eqb (length line) count many in
    elim (cases_Bool (list_all is_value_byte line)) [
      | inl values ↦ rw (long, values, some_x line values none) refl
      | inr other ↦ rw (long, other) refl
    ]

pub all_bits : (count : ℕ) (line : List ℕ) → length line ≡ count → list_all is_bit line ≡ true → bits_at count line ≡ Ok (map is_one_bit line)
all_bits count line many all =
    let long = eq-eqb (length line) count many in
    rw (long, known_are_values line all, none_of is_bit 120 line known_not_x all) refl

bits_front : (count n : ℕ) (line : List ℕ) → count < n → bits_at count (take n line) ≡ bits_at count line
bits_front count n line below =
    elim (cases_lt n (length line)) [
      | inl long ↦
          let many = length-take-le n line (omega (arith, long)) in
          other_count count (take n line) (λ e. omega (arith, e, many, below)) ∙ sym (other_count count line (λ e. omega (arith, e, long, below)))
      | inr short ↦ ap (bits_at count) (take_all n line short)
    ]

abbrev pub is_at_claim : BitPlace → Bool
is_at_claim AtClaim = true
is_at_claim _ = false

front_admitted : (c : Circuit) (r : BitRead) (n : ℕ) (line : List ℕ) (at : BitPlace) → length c.latches < n → c.inputs < n → 1 < n → is_at_claim at ≡ false → bit_admit_at c r (take n line) at ≡ bit_admit_at c r line at
front_admitted c r n line AtHeader latches inputs some other = rw (word_kept n line (codes "1") some) refl
front_admitted c r n line AtClaim latches inputs some other = absurd (cc other)
front_admitted c r n line AtInitial latches inputs some other = rw (bits_front (length c.latches) n line latches) refl
front_admitted c r n line AtFirst latches inputs some other = rw (word_kept n line (codes ".") some, bits_front c.inputs n line inputs) refl
front_admitted c r n line AtLater latches inputs some other = rw (word_kept n line (codes ".") some, bits_front c.inputs n line inputs) refl
front_admitted c r n line AtDone latches inputs some other = refl

pub admit_front : (c : Circuit) (r : BitRead) (line : List ℕ) (digits : Bool) (whole : List ℕ) → AreFront (line_room c) line digits whole → is_at_claim r.place ≡ false → bit_admit c r line ≡ bit_admit c r whole
unfolding bit_admit
admit_front c r line digits whole h other =
    let front : (l : List ℕ) → bit_admit_at c r (take (line_room c) l) r.place ≡ bit_admit_at c r l r.place = λ l. front_admitted c r (line_room c) l r.place (omega arith) (omega arith) (omega arith) other in
    sym (front line) ∙ (ap (λ (l : List ℕ). bit_admit_at c r l r.place) h.same ∙ front whole)

-- which lines say that there is no claim
pub none_front : (room : ℕ) (line whole : List ℕ) → 1 < room → take room line ≡ take room whole → (bytes_eq line (codes "0") || bytes_eq line (codes "2")) ≡ (bytes_eq whole (codes "0") || bytes_eq whole (codes "2"))
none_front room line whole some same = rw (word_alike room line whole (codes "0") some same, word_alike room line whole (codes "2") some same) refl
