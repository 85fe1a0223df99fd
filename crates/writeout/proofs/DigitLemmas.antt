-- Constants in digits: their numbers against those of ones alone, and what these make of their words.
use Rattle.std.proofs.Common.{◌≡◌, ◌≢◌, ◌⊎◌, inl, inr, ℕ, zero, suc, ◌+◌, ◌-◌, ◌*◌, ◌%◌, ◌^◌, ◌<◌, ◌≤◌, min, Bool, true, false, ◌&&◌, nat_eq, nat_le, nat_lt, eqb-true, ltb-true, leb-true, List, [], slice_get, Some, is_some, pos, neg_ℤ, int_le, int_lt, refl, sym, ap, ap₂, subst, ◌∙◌, arith, pow_pos, pow_mono}
use Rattle.std.proofs.Math.Nat.{mul-le-mul_left, mod-eq_of_lt}
use Rattle.std.proofs.lemmas.Nat.{pow-add}
use Rattle.std.proofs.lemmas.Bool.{cases_lt, cases_eq, eq-eqb, ne_eqb}
use Rattle.base.specs.Operator.{ones}
use Rattle.base.specs.Signed.{wrapped}
use Rattle.btor2.specs.declared.item.Body.TheVariants as body
use Rattle.wide.specs.declared.constant.Spelling.{Spelling}
use Rattle.wide.specs.declared.constant.Spelling.TheVariants as spelling
use Rattle.wide.specs.Lines.{constant_body}
use Rattle.wide.specs.WideModels.{greatest_width, constant_fits_within}
use Rattle.full.specs.Lines.{FullLine, find_line, sort_of_node, width_of}
use Rattle.full.specs.Agreement.{IsFullModel}
use Rattle.writeout.specs.Ways.{kind_by, kind_of_form, NumberFits}
use Rattle.writeout.specs.Forms.{is_value}
use Rattle.writeout.specs.Nodes.{IsLine}
use Rattle.writeout.proofs.PlaceLemmas.{found_id}
use Rattle.writeout.proofs.LineLemmas.{form_there, form_fits}

apart : (B d x e y : ℕ) → d < B → x < y → d + B * x ≡ e + B * y → ⊥
apart B d x e y low less same =
    let more : B * (x + 1) ≤ B * y = mul-le-mul_left B (omega (arith, less)) in
    omega (arith, more, low, same)

-- a digit and what is above it are those of another
parts_same : (B d x e y : ℕ) → d < B → e < B → d + B * x ≡ e + B * y → (d ≡ e) × (x ≡ y)
parts_same B d x e y low other same =
    elim (cases_lt x y) [
      | inl less ↦ absurd (apart B d x e y low less same)
      | inr most ↦
          elim (cases_lt y x) [
            | inl less ↦ absurd (apart B e y d x other less (sym same))
            | inr least ↦
                let all : x ≡ y = omega (arith, most, least) in
                let sums : d + B * y ≡ e + B * y = ap (λ (n : ℕ). d + B * n) (sym all) ∙ same in
                (omega (arith, sums), all)
          ]
    ]

above_same : (B d x y : ℕ) → d < B → nat_eq (d + B * x) (d + B * y) ≡ nat_eq x y
above_same B d x y low =
    elim (cases_eq x y) [
      | inl e ↦ eq-eqb _ _ (ap (λ (n : ℕ). d + B * n) e) ∙ sym (eq-eqb x y e)
      | inr ne ↦ ne_eqb (d + B * x) (d + B * y) (λ e. ne (parts_same B d x d y low low e).1) ∙ sym (ne_eqb x y ne)
    ]

-- ones are those of a digit, and more above them
ones_parts : (left part : ℕ) → part ≡ min left 64 → ones left ≡ ones part + 2 ^ 64 * ones (left - part)
ones_parts left part is =
    elim (cases_lt left 64) [
      | inl few ↦ let all : part ≡ left = omega (arith, is, few) in let none : left - part ≡ 0 = omega (arith, all) in sym (ap (λ (n : ℕ). ones part + 2 ^ 64 * ones n) none ∙ omega arith ∙ ap ones all)
      | inr many ↦
          let whole : part ≡ 64 = omega (arith, is, many) in
          let parts : left ≡ 64 + (left - 64) = omega (arith, many) in
          let powers : 2 ^ left ≡ 2 ^ 64 * 2 ^ (left - 64) = ap (λ (n : ℕ). 2 ^ n) parts ∙ pow-add 2 64 (left - 64) in
          rw whole (omega (arith, powers, pow_pos (left - 64)))
    ]

few_ones : (left part : ℕ) → part ≡ min left 64 → ones part < 2 ^ 64
few_ones left part is =
    let few : part ≤ 64 = omega (arith, is) in
    let power : 2 ^ part ≤ 2 ^ 64 = pow_mono few in
    omega (arith, power, pow_pos part)

pub power_is : (part : ℕ) → part ≤ 64 → 1 * 2 ^ part % 2 ^ 128 ≡ 2 ^ part
power_is part h =
    let few : 2 ^ part ≤ 2 ^ 64 = pow_mono h in
    let one : 1 * 2 ^ part ≡ 2 ^ part = omega arith in
    ap (λ (n : ℕ). n % 2 ^ 128) one ∙ mod-eq_of_lt (omega (arith, few))

-- a digit of ones alone, as many as are left
pub ones_digit : (left part d rest : ℕ) → part ≡ min left 64 → d + 1 ≡ 2 ^ part → nat_eq (d + 2 ^ 64 * rest) (ones left) ≡ nat_eq rest (ones (left - part))
ones_digit left part d rest is digit =
    let low : ones part ≡ d = omega (arith, digit) in
    ap (nat_eq (d + 2 ^ 64 * rest)) (ones_parts left part is ∙ ap (λ (n : ℕ). n + 2 ^ 64 * ones (left - part)) low) ∙ above_same (2 ^ 64) d rest (ones (left - part)) (omega (arith, low, few_ones left part is))

pub other_digit : (left part d rest : ℕ) → part ≡ min left 64 → d < 2 ^ 64 → (d + 1 ≡ 2 ^ part → ⊥) → nat_eq (d + 2 ^ 64 * rest) (ones left) ≡ false
other_digit left part d rest is low digit =
    ne_eqb _ _ (λ e. let same : d ≡ ones part = (parts_same (2 ^ 64) d rest (ones part) (ones (left - part)) low (few_ones left part is) (e ∙ ones_parts left part is)).0 in digit (omega (arith, same, pow_pos part)))

pub no_digits : (left : ℕ) → nat_eq 0 (ones left) ≡ nat_eq left 0
no_digits zero = refl
no_digits (suc n) =
    let some : 1 ≤ 2 ^ n = omega (arith, pow_pos n) in
    let more : 2 ^ suc n ≡ 2 * 2 ^ n = omega arith in
    ne_eqb 0 (ones (suc n)) (λ e. omega (arith, e, some, more)) ∙ sym (ne_eqb (suc n) 0 (λ e. omega (arith, e)))

-- ---- words of constants in digits

one_is_ones : (n : ℕ) → nat_eq 1 (ones n) ≡ nat_eq n 1
one_is_ones zero = refl
one_is_ones (suc zero) = refl
one_is_ones (suc (suc n)) =
    let some = pow_pos n in
    let more : 2 ^ suc (suc n) ≡ 4 * 2 ^ n = omega arith in
    ne_eqb 1 (ones (suc (suc n))) (λ e. omega (arith, e, some, more)) ∙ sym (ne_eqb (suc (suc n)) 1 (λ e. omega (arith, e)))

pub one_kind : (n s : ℕ) → kind_by false (nat_eq n 1) ≡ kind_of_form n (body.One s)
one_kind n s = ap (kind_by false) (sym (one_is_ones n))

pub ones_kind : (n s : ℕ) → kind_by (nat_eq n 0) true ≡ kind_of_form n (body.Ones s)
ones_kind n s = ap₂ kind_by (sym (no_digits n) ∙ eq_turned 0 (ones n)) (sym (eq-eqb (ones n) (ones n) refl))
  where
    eq_turned : (a b : ℕ) → nat_eq a b ≡ nat_eq b a
    eq_turned a b = grind arith

-- a number that fits, with a minus before it, and without
negative_kind : (n v : ℕ) → v < 2 ^ n → kind_by (nat_eq (wrapped n (neg_ℤ (pos v))) 0) (nat_eq (wrapped n (neg_ℤ (pos v))) (ones n)) ≡ kind_by (nat_eq v 0) (nat_eq v (ones 1))
negative_kind n zero h = ap (λ (b : Bool). kind_by b (nat_eq (0 % 2 ^ n) (ones n))) (ap (λ (k : ℕ). nat_eq k 0) (mod-eq_of_lt (pow_pos n)))
negative_kind n (suc m) h =
    let word : 2 ^ n - 1 - m % 2 ^ n ≡ 2 ^ n - 1 - m = ap (λ (k : ℕ). 2 ^ n - 1 - k) (mod-eq_of_lt (omega (arith, h))) in
    ap (λ (w : ℕ). kind_by (nat_eq w 0) (nat_eq w (ones n))) word
    ∙ ap₂ kind_by (ne_eqb (2 ^ n - 1 - m) 0 (λ e. omega (arith, e, h)) ∙ sym (ne_eqb (suc m) 0 (λ e. omega (arith, e)))) (last (cases_eq m 0))
  where
    last : (m ≡ 0) ⊎ (m ≢ 0) → nat_eq (2 ^ n - 1 - m) (ones n) ≡ nat_eq (suc m) (ones 1)
    last (inl none) = eq-eqb (2 ^ n - 1 - m) (ones n) (omega (arith, none)) ∙ sym (eq-eqb (suc m) (ones 1) (omega (arith, none)))
    last (inr some) = ne_eqb (2 ^ n - 1 - m) (ones n) (λ e. some (omega (arith, e, h))) ∙ sym (ne_eqb (suc m) (ones 1) (λ e. some (omega (arith, e))))

pub digits_by : (p : Spelling) (n s count v : ℕ) → (p ≡ spelling.Binary) ⊎ ((p ≡ spelling.Decimal) ⊎ (p ≡ spelling.Hexadecimal)) → v < 2 ^ n → kind_by (nat_eq v 0) (nat_eq v (ones n)) ≡ kind_of_form n (constant_body p s count v)
digits_by spelling.Binary n s count v is h = refl
digits_by spelling.Decimal n s count v is h = ap (λ (w : ℕ). kind_by (nat_eq w 0) (nat_eq w (ones n))) (sym (mod-eq_of_lt h))
digits_by spelling.Negative n s count v (inl e) h = absurd (cc)
digits_by spelling.Negative n s count v (inr (inl e)) h = absurd (cc)
digits_by spelling.Negative n s count v (inr (inr e)) h = absurd (cc)
digits_by spelling.Hexadecimal n s count v is h = refl

pub negative_digits : (p : Spelling) (n s count v : ℕ) → p ≡ spelling.Negative → v < 2 ^ n → kind_by (nat_eq v 0) (nat_eq v (ones 1)) ≡ kind_of_form n (constant_body p s count v)
negative_digits p n s count v is h = sym (negative_kind n v h) ∙ ap (λ (q : Spelling). kind_of_form n (constant_body q s count v)) (sym is)

-- ---- numbers that fit

and_both : (a b : Bool) → (a && b) ≡ true → (a ≡ true) × (b ≡ true)
and_both true b h = (refl, h)
and_both false b h = absurd (cc)

-- numbers below 0
neg_least : (m v : ℕ) → int_le (neg_ℤ (pos m)) (neg_ℤ (pos v)) ≡ true → v ≤ m
neg_least m zero h = omega arith
neg_least zero (suc a) h = absurd (cc)
neg_least (suc b) (suc a) h = let le = leb-true a b h in omega (arith, le)

half_below : (n : ℕ) → 1 ≤ n → 2 ^ (n - 1) < 2 ^ n
half_below zero h = absurd (omega (arith, h))
half_below (suc n) h =
    let less : 2 ^ (suc n - 1) ≡ 2 ^ n = ap (λ (k : ℕ). 2 ^ k) (omega arith) in
    let more : 2 ^ suc n ≡ 2 * 2 ^ n = omega arith in
    omega (arith, less, more, pow_pos n)

number_fits : (p : Spelling) (s count v n : ℕ) → 1 ≤ n → constant_fits_within greatest_width n (constant_body p s count v) ≡ true → v < 2 ^ n
number_fits spelling.Binary s count v n some h =
    let both = and_both (nat_eq count n) (nat_lt v (2 ^ count)) h in
    subst (λ (k : ℕ). v < 2 ^ k) (eqb-true count n both.0) (ltb-true v (2 ^ count) both.1)
number_fits spelling.Decimal s count v n some h = ltb-true v (2 ^ n) (and_both (int_le (neg_ℤ (pos (2 ^ (n - 1)))) (pos v)) (int_lt (pos v) (pos (2 ^ n))) h).1
number_fits spelling.Negative s count v n some h =
    let least = neg_least (2 ^ (n - 1)) v (and_both (int_le (neg_ℤ (pos (2 ^ (n - 1)))) (neg_ℤ (pos v))) (int_lt (neg_ℤ (pos v)) (pos (2 ^ n))) h).0 in
    omega (arith, least, half_below n some)
number_fits spelling.Hexadecimal s count v n some h =
    let few = (and_both (nat_le 1 count) (nat_le (4 * count) (greatest_width + 3) && (nat_lt v (2 ^ n) && nat_lt v (16 ^ count))) h).1 in
    let both = (and_both (nat_le (4 * count) (greatest_width + 3)) (nat_lt v (2 ^ n) && nat_lt v (16 ^ count)) few).1 in
    ltb-true v (2 ^ n) (and_both (nat_lt v (2 ^ n)) (nat_lt v (16 ^ count)) both).0

-- the number of a line that an id finds
pub found_fits : (full : List FullLine) (id k : ℕ) (x : FullLine) → IsFullModel full → find_line full id ≡ slice_get full k → slice_get full k ≡ Some x → (is_some (sort_of_node full id) ≡ true → 1 ≤ width_of full id) → NumberFits (width_of full id) x.says
found_fits full id k x model found at least p s count v says =
    let line : IsLine full x = record { place = k; at = at } in
    let same : x.id ≡ id = sym (found_id full id x (found ∙ at)) in
    let value = digits_value p s count v in
    let there = subst (λ (i : ℕ). is_some (sort_of_node full i) ≡ true) same (form_there full x (constant_body p s count v) [] model line says value) in
    number_fits p s count v (width_of full id) (least there)
    (ap (λ (i : ℕ). constant_fits_within greatest_width (width_of full i) (constant_body p s count v)) (sym same) ∙ form_fits full x (constant_body p s count v) [] model line says value)
  where
    digits_value : (p : Spelling) (s count v : ℕ) → is_value (constant_body p s count v) ≡ true
    digits_value spelling.Binary s count v = refl
    digits_value spelling.Decimal s count v = refl
    digits_value spelling.Negative s count v = refl
    digits_value spelling.Hexadecimal s count v = refl
