-- Places and numbers of variables in a list.
use Rattle.std.proofs.Common.{◌≡◌, ℕ, suc, ◌+◌, ◌-◌, ◌*◌, ◌/◌, ◌%◌, ◌<◌, ◌≤◌, ◌||◌, ◌==◌, Bool, true, false, not, List, [], ◌∷◌, ◌++◌, All, length, Some, None, ◌⊎◌, inl, inr, nat_eq, nat_lt, cond, refl, ap, sym, ◌∙◌, arith, if◌then◌else◌, append-nil, length-append}
use Rattle.std.proofs.lemmas.List.{nil_from_length}
use Rattle.std.proofs.lemmas.List.FromFn.{length-range_with_len}
use Rattle.std.proofs.lemmas.Bool.Decides.{nat_tests}
use Rattle.std.proofs.lemmas.Bool.{or_from}
use Rattle.std.proofs.lemmas.List.Elements.{All-weaker}
use Rattle.std.proofs.lemmas.List.Folds.{list_any-append, list_any_none, position_or_len_push}
use Rattle.std.specs.List.{list_any, position, position_or_len, range_with_len}
use Rattle.base.specs.Literal.{variable}
use Rattle.aiger.specs.Limits.{greatest_count}
use Rattle.aigerlists.specs.Numbering.{number_among}
use Rattle.aigerlists.specs.Renumbering.{has_number, new_literal, numbered_literal}
use Rattle.aigerlists.proofs.RangeLemmas.{within_range, outside_range, place_in_range, range_joined}
use Rattle.aigerlists.proofs.RenumberingLemmas.{found, place_kept, place_further, new_of_variable}

-- a place is at most the length
pub place-le : {X : Type 0} (p : X → Bool) (xs : List X) → position_or_len p xs ≤ length xs
place-le p [] = omega arith
place-le p (x ∷ xs) = by (p x) refl (place-le p xs)
  where
    by : (b : Bool) → p x ≡ b → position_or_len p xs ≤ length xs → position_or_len p (x ∷ xs) ≤ length (x ∷ xs)
    by true e rest = let z : position_or_len p (x ∷ xs) ≡ 0 = ap (λ (b : Bool). cond (not b) (1 + position_or_len p xs) 0) e in omega (arith, z)
    by false e rest = let z : position_or_len p (x ∷ xs) ≡ 1 + position_or_len p xs = ap (λ (b : Bool). cond (not b) (1 + position_or_len p xs) 0) e in omega (arith, z, rest)

-- a place from the look-up
pub place_found : {X : Type 0} (p : X → Bool) (xs : List X) (k : ℕ) → position p xs ≡ Some k → (position_or_len p xs ≡ k) × (k < length xs)
place_found p xs k e = by (nat_lt (position_or_len p xs) (length xs)) refl e
  where
    by : (b : Bool) → nat_lt (position_or_len p xs) (length xs) ≡ b → cond b (Some (position_or_len p xs)) None ≡ Some k → (position_or_len p xs ≡ k) × (k < length xs)
    by true t e = let s : position_or_len p xs ≡ k = cc in (s, grind (arith, nat_tests))
    by false t e = absurd (cc)

pub place_missed : {X : Type 0} (p : X → Bool) (xs : List X) → position p xs ≡ None → position_or_len p xs ≡ length xs
place_missed p xs e = by (nat_lt (position_or_len p xs) (length xs)) refl e
  where
    by : (b : Bool) → nat_lt (position_or_len p xs) (length xs) ≡ b → cond b (Some (position_or_len p xs)) None ≡ None → position_or_len p xs ≡ length xs
    by true t e = absurd (cc)
    by false t e = let h : length xs ≤ position_or_len p xs = grind (arith, nat_tests) in omega (arith, h, place-le p xs)

-- what stands nowhere has the place behind all
pub not_found : (v : ℕ) (names : List ℕ) → list_any (nat_eq v) names ≡ false → position_or_len (nat_eq v) names ≡ length names
not_found v [] none = refl
not_found v (x ∷ names) none =
    let here : nat_eq v x ≡ false = grind (arith, nat_tests) in
    let rest : list_any (nat_eq v) names ≡ false = grind (arith, nat_tests) in
    let z : position_or_len (nat_eq v) (x ∷ names) ≡ 1 + position_or_len (nat_eq v) names = ap (λ (b : Bool). cond (not b) (1 + position_or_len (nat_eq v) names) 0) here in
    omega (arith, z, not_found v names rest)

-- what stands somewhere has one more than its place as its number, and what stands nowhere 0
pub number_there : (v : ℕ) (names : List ℕ) → list_any (nat_eq v) names ≡ true → number_among names v ≡ suc (position_or_len (nat_eq v) names)
number_there v names t = ap (λ (b : Bool). if b then suc (position_or_len (nat_eq v) names) else 0) t

pub number_nowhere : (v : ℕ) (names : List ℕ) → list_any (nat_eq v) names ≡ false → number_among names v ≡ 0
number_nowhere v names t = ap (λ (b : Bool). if b then suc (position_or_len (nat_eq v) names) else 0) t

-- the place by the number
pub place_by_none : (v : ℕ) (names : List ℕ) → number_among names v ≡ 0 → position_or_len (nat_eq v) names ≡ length names
place_by_none v names e = by (list_any (nat_eq v) names) refl
  where
    by : (b : Bool) → list_any (nat_eq v) names ≡ b → position_or_len (nat_eq v) names ≡ length names
    by true t = absurd (omega (arith, e, number_there v names t))
    by false t = not_found v names t

pub place_by_number : (v : ℕ) (names : List ℕ) → 0 < number_among names v → (number_among names v - 1 ≡ position_or_len (nat_eq v) names) × (number_among names v - 1 ≤ length names)
place_by_number v names e = by (list_any (nat_eq v) names) refl
  where
    by : (b : Bool) → list_any (nat_eq v) names ≡ b → (number_among names v - 1 ≡ position_or_len (nat_eq v) names) × (number_among names v - 1 ≤ length names)
    by true t =
        let n : number_among names v ≡ suc (position_or_len (nat_eq v) names) = number_there v names t in
        (omega (arith, n), omega (arith, n, place-le (nat_eq v) names))
    by false t = absurd (omega (arith, e, number_nowhere v names t))

-- with one variable more, which stood nowhere, that one has the next number, and the others have theirs
pub number_pushed : (names : List ℕ) (x v : ℕ) → list_any (nat_eq x) names ≡ false → cond (nat_eq x v) (suc (length names)) (number_among names v) ≡ number_among (names ++ x ∷ []) v
number_pushed names x v new = by (list_any (nat_eq v) names) (nat_eq x v) refl refl
  where
    any : list_any (nat_eq v) (names ++ x ∷ []) ≡ (list_any (nat_eq v) names || list_any (nat_eq v) (x ∷ []))
    any = list_any-append (nat_eq v) names (x ∷ [])

    place : position_or_len (nat_eq v) (names ++ x ∷ []) ≡ cond (nat_eq (position_or_len (nat_eq v) names) (length names)) (length names + cond (nat_eq v x) 0 1) (position_or_len (nat_eq v) names)
    place = position_or_len_push (nat_eq v) names x

    by : (b c : Bool) → list_any (nat_eq v) names ≡ b → nat_eq x v ≡ c → cond (nat_eq x v) (suc (length names)) (number_among names v) ≡ number_among (names ++ x ∷ []) v
    by true true t e =
        let s : x ≡ v = grind (arith, nat_tests) in
        let u : list_any (nat_eq v) names ≡ false = ap (λ (k : ℕ). list_any (nat_eq k) names) (sym s) ∙ new in
        absurd (cc)
    by true false t e =
        let within : position_or_len (nat_eq v) names < length names = (found v names t).0 in
        let apart : nat_eq (position_or_len (nat_eq v) names) (length names) ≡ false = grind (arith, nat_tests) in
        let same : position_or_len (nat_eq v) (names ++ x ∷ []) ≡ position_or_len (nat_eq v) names = place ∙ ap (λ (b : Bool). cond b (length names + cond (nat_eq v x) 0 1) (position_or_len (nat_eq v) names)) apart in
        let there : list_any (nat_eq v) (names ++ x ∷ []) ≡ true = any ∙ ap (λ (b : Bool). b || list_any (nat_eq v) (x ∷ [])) t in
        ap (λ (b : Bool). cond b (suc (length names)) (number_among names v)) e ∙ (number_there v names t ∙ (ap suc (sym same) ∙ sym (number_there v (names ++ x ∷ []) there)))
    by false true t e =
        let s : nat_eq v x ≡ true = grind (arith, nat_tests) in
        let last : nat_eq (position_or_len (nat_eq v) names) (length names) ≡ true = let n = not_found v names t in grind (arith, nat_tests) in
        let p : position_or_len (nat_eq v) (names ++ x ∷ []) ≡ length names + cond (nat_eq v x) 0 1 = place ∙ ap (λ (b : Bool). cond b (length names + cond (nat_eq v x) 0 1) (position_or_len (nat_eq v) names)) last in
        let z : ◌≡◌ {A = ℕ} (cond (nat_eq v x) 0 1) 0 = ap (λ (b : Bool). cond b 0 1) s in
        let there : list_any (nat_eq v) (names ++ x ∷ []) ≡ true = any ∙ (ap (λ (b : Bool). b || list_any (nat_eq v) (x ∷ [])) t ∙ ap (λ (b : Bool). b || false) s) in
        let q : suc (length names) ≡ number_among (names ++ x ∷ []) v = omega (arith, number_there v (names ++ x ∷ []) there, p, z) in
        ap (λ (b : Bool). cond b (suc (length names)) (number_among names v)) e ∙ q
    by false false t e =
        let s : nat_eq v x ≡ false = grind (arith, nat_tests) in
        let nowhere : list_any (nat_eq v) (names ++ x ∷ []) ≡ false = any ∙ (ap (λ (b : Bool). b || list_any (nat_eq v) (x ∷ [])) t ∙ ap (λ (b : Bool). b || false) s) in
        ap (λ (b : Bool). cond b (suc (length names)) (number_among names v)) e ∙ (number_nowhere v names t ∙ sym (number_nowhere v (names ++ x ∷ []) nowhere))

-- ---- variables that have their own numbers, and others behind them

pub length_joined : (k : ℕ) (others : List ℕ) → length (range_with_len 1 k ++ others) ≡ k + length others
length_joined k others = omega (arith, length-append (range_with_len 1 k) others, length-range_with_len 1 k)

-- one more that has its own number
pub next_in_turn : (v k : ℕ) (others now : List ℕ) → range_with_len 1 k ++ others ≡ now → length others ≤ 0 → v ≡ k + 1 → range_with_len 1 v ++ others ≡ now ++ v ∷ []
next_in_turn v k others now view empty is =
    let none : others ≡ [] = nil_from_length others (omega (arith, empty)) in
    let front : range_with_len 1 k ≡ now = sym (append-nil (range_with_len 1 k)) ∙ ap (λ (xs : List ℕ). range_with_len 1 k ++ xs) (sym none) ∙ view in
    let last : 1 + k ≡ v = omega (arith, is) in
    ap (λ (xs : List ℕ). range_with_len 1 v ++ xs) none ∙ append-nil (range_with_len 1 v) ∙ ap (range_with_len 1) is ∙ sym (range_joined 1 k 1) ∙ ap (λ (i : ℕ). range_with_len 1 k ++ i ∷ []) last ∙ ap (λ (xs : List ℕ). xs ++ v ∷ []) front

-- what the test for none finds
pub empty_from_test : (n : ℕ) → true ≡ (n == 0) → n ≤ 0
empty_from_test n t = grind (arith, nat_tests)

-- their places
pub place_in_turn : (v k : ℕ) (others : List ℕ) → 1 ≤ v → v ≤ k → v - 1 ≡ position_or_len (nat_eq v) (range_with_len 1 k ++ others)
place_in_turn v k others some most =
    let there = within_range v 1 k some (omega (arith, most)) in
    omega (arith, place_kept v (range_with_len 1 k) others there, place_in_range v 1 k some (omega (arith, most)))

pub place_out_of_turn : (v k p : ℕ) (others : List ℕ) → (v < 1) ⊎ (k < v) → p ≡ position_or_len (nat_eq v) others → k + p ≡ position_or_len (nat_eq v) (range_with_len 1 k ++ others)
place_out_of_turn v k p others outside e =
    omega (arith, place_further v (range_with_len 1 k) others (outside_range v 1 k (apart outside)), length-range_with_len 1 k, e)
  where
    apart : (v < 1) ⊎ (k < v) → (v < 1) ⊎ (1 + k ≤ v)
    apart (inl h) = inl h
    apart (inr h) = inr (omega (arith, h))

-- a variable that is nowhere in both is not among the others
pub none_behind : (v k : ℕ) (others now : List ℕ) → range_with_len 1 k ++ others ≡ now → list_any (nat_eq v) now ≡ false → list_any (nat_eq v) others ≡ false
none_behind v k others now view none =
    let e = list_any-append (nat_eq v) (range_with_len 1 k) others in
    let t : list_any (nat_eq v) (range_with_len 1 k ++ others) ≡ false = ap (list_any (nat_eq v)) view ∙ none in
    grind (arith, nat_tests, e, t)

-- ---- places of variables of any width

pub nothing_at : {X : Type 0} (p : X → Bool) (xs : List X) → position_or_len p xs ≡ length xs → position p xs ≡ None
nothing_at p xs e = let t : nat_lt (position_or_len p xs) (length xs) ≡ false = grind (arith, nat_tests) in ap (λ (b : Bool). cond b (Some (position_or_len p xs)) None) t

pub something_at : {X : Type 0} (p : X → Bool) (xs : List X) (k : ℕ) → k ≡ position_or_len p xs → k < length xs → position p xs ≡ Some k
something_at p xs k e h =
    let t : nat_lt (position_or_len p xs) (length xs) ≡ true = grind (arith, nat_tests) in
    ap (λ (b : Bool). cond b (Some (position_or_len p xs)) None) t ∙ ap (λ (i : ℕ). Some i) (sym e)

-- a variable of more than 32 bits is not among them
pub none_beyond : (v k : ℕ) (others now : List ℕ) → range_with_len 1 k ++ others ≡ now → length now ≤ greatest_count → All (λ x. x < 4294967296) others → 4294967296 ≤ v → position (nat_eq v) now ≡ None
none_beyond v k others now view few small beyond =
    let in_turn : list_any (nat_eq v) (range_with_len 1 k) ≡ false = outside_range v 1 k (inr (omega (arith, beyond, few, ap (length {A = ℕ}) view, length_joined k others))) in
    let behind : list_any (nat_eq v) others ≡ false = list_any_none (nat_eq v) others (All-weaker (λ x. x < 4294967296) (λ x. nat_eq v x ≡ false) (λ x h. grind (arith, nat_tests, h, beyond)) others small) in
    let none : list_any (nat_eq v) now ≡ false = ap (list_any (nat_eq v)) (sym view) ∙ list_any-append (nat_eq v) (range_with_len 1 k) others ∙ or_from _ _ in_turn behind in
    nothing_at (nat_eq v) now (not_found v now none)

-- the literal of a variable by its place
by_test : (names : List ℕ) (lit : ℕ) (b : Bool) → has_number names lit ≡ b → numbered_literal (Some names) lit ≡ (if b then Some (new_literal names lit) else None)
by_test names lit b e = ap (λ (t : Bool). if t then Some (new_literal names lit) else None) e

pub literal_of_none : (names : List ℕ) (lit : ℕ) → 2 ≤ lit → position (nat_eq (lit / 2)) names ≡ None → numbered_literal (Some names) lit ≡ None
literal_of_none names lit some e = by (list_any (nat_eq (variable lit)) names) refl
  where
    by : (b : Bool) → list_any (nat_eq (variable lit)) names ≡ b → numbered_literal (Some names) lit ≡ None
    by true t = absurd (omega (arith, (found (variable lit) names t).0, place_missed (nat_eq (variable lit)) names e))
    by false t =
        let constant : (variable lit == 0) ≡ false = grind (arith, nat_tests, some) in
        by_test names lit false (or_from _ _ constant t)

pub literal_of_place : (names : List ℕ) (lit place : ℕ) → 2 ≤ lit → position (nat_eq (lit / 2)) names ≡ Some place → numbered_literal (Some names) lit ≡ Some (2 * (place + 1) + lit % 2)
literal_of_place names lit place some e = by (list_any (nat_eq (variable lit)) names) refl
  where
    constant : (variable lit == 0) ≡ false
    constant = grind (arith, nat_tests, some)

    by : (b : Bool) → list_any (nat_eq (variable lit)) names ≡ b → numbered_literal (Some names) lit ≡ Some (2 * (place + 1) + lit % 2)
    by true t =
        let there : has_number names lit ≡ true = ap (λ (b : Bool). b || list_any (nat_eq (variable lit)) names) constant ∙ t in
        let is : 2 * suc (position_or_len (nat_eq (variable lit)) names) + lit % 2 ≡ 2 * (place + 1) + lit % 2 = omega (arith, (place_found (nat_eq (variable lit)) names place e).0) in
        by_test names lit true there ∙ ap (λ (n : ℕ). Some n) (new_of_variable names lit constant ∙ is)
    by false t = absurd (omega (arith, not_found (variable lit) names t, place_found (nat_eq (variable lit)) names place e))

-- variables none of which has another number have their own
pub all_own : (k : ℕ) (others now : List ℕ) → range_with_len 1 k ++ others ≡ now → length others ≤ 0 → now ≡ range_with_len 1 (length now)
all_own k others now view empty =
    let none : others ≡ [] = nil_from_length others (omega (arith, empty)) in
    let front : now ≡ range_with_len 1 k = sym view ∙ ap (λ (xs : List ℕ). range_with_len 1 k ++ xs) none ∙ append-nil (range_with_len 1 k) in
    let many : k ≡ length now = omega (arith, ap (length {A = ℕ}) front, length-range_with_len 1 k) in
    front ∙ ap (range_with_len 1) many
