-- Latches that are set one after the other.
use Rattle.std.proofs.Common.{◌≡◌, ℕ, zero, suc, ◌+◌, ◌-◌, ◌<◌, ◌≤◌, Bool, true, List, [], ◌∷◌, ◌++◌, length, map, take, drop, replicate, get_or, refl, sym, ap, ap₂, ◌∙◌, length-append, append-nil, arith}
use Rattle.std.specs.Prelude.{min, max, slice_set, nat_lt, if◌then◌else◌}
use Rattle.std.proofs.lemmas.Bool.Decides.{nat_tests}
use Rattle.std.proofs.lemmas.List.{length-map, length-drop, length-take-le, take_more, map-append, drop-replicate}
use Rattle.aiger.specs.declared.circuit.Latch.{Latch}
use Rattle.aiger.specs.Circuit.{Circuit, fresh_latch}
use Rattle.engine_form.specs.EngineForm.{free_count, where_some, or_one, with_own, latch_count}

set_behind : {A : Type 0} (xs ys : List A) (y : A) → 0 < length ys → slice_set (xs ++ ys) (length xs) y ≡ (xs ++ y ∷ []) ++ drop 1 ys
set_behind [] [] y h = absurd (omega arith)
set_behind [] (z ∷ ys) y h = refl
set_behind (x ∷ xs) ys y h = ap (λ l. x ∷ l) (set_behind xs ys y h)

drop_one : {A : Type 0} (k : ℕ) (ys : List A) → drop 1 (drop k ys) ≡ drop (k + 1) ys
drop_one zero ys = refl
drop_one (suc k) [] = ap (λ (n : ℕ). drop n []) (let e : suc (k + 1) ≡ suc k + 1 = omega arith in e)
drop_one (suc k) (y ∷ ys) = drop_one k ys ∙ ap (λ (n : ℕ). drop n (y ∷ ys)) (let e : suc (k + 1) ≡ suc k + 1 = omega arith in e)

pub set-more : {A : Type 0} (f : A → A) (ls ys : List A) (k : ℕ) (l y : A) → k < length ls → length ls ≤ length ys → l ≡ get_or ls k l → y ≡ f l
    → slice_set (map f (take k ls) ++ drop k ys) k y ≡ map f (take (k + 1) ls) ++ drop (k + 1) ys
set-more f ls ys k l y inside room at is =
    let many : length (map f (take k ls)) ≡ k = length-map (take k ls) f ∙ length-take-le k ls (omega arith) in
    let left : 0 < length (drop k ys) = (let e = length-drop k ys in omega arith) in
    ap (λ (n : ℕ). slice_set (map f (take k ls) ++ drop k ys) n y) (sym many)
    ∙ set_behind (map f (take k ls)) (drop k ys) y left
    ∙ ap₂ ◌++◌
    (ap (λ x. map f (take k ls) ++ x ∷ []) is ∙ sym (map-append f (take k ls) (l ∷ [])) ∙ ap (map f) (sym (take_more ls k l inside ∙ ap (λ x. take k ls ++ x ∷ []) (sym at))))
    (drop_one k ys)

pub set-length : {A : Type 0} (f : A → A) (ls ys : List A) (k : ℕ) → k ≤ length ls → length ls ≤ length ys → length (map f (take k ls) ++ drop k ys) ≡ length ys
set-length f ls ys k inside room =
    let a = length-map (take k ls) f in
    let b = length-take-le k ls inside in
    let d = length-drop k ys in
    let e = length-append (map f (take k ls)) (drop k ys) in
    omega arith

-- ---- those of its own

or_one_is : {A : Type 0} (x y : A) (xs zs : List A) → or_one x ((xs ++ y ∷ []) ++ zs) ≡ (xs ++ y ∷ []) ++ zs
or_one_is x y [] zs = refl
or_one_is x y (v ∷ xs) zs = refl

-- how many latches there are
abbrev all_count : ℕ → ℕ → ℕ → ℕ
all_count n free some = max 1 (n + min 1 free + min 1 some)

-- what is set behind the kept ones
abbrev started_list : {A : Type 0} → List A → ℕ → ℕ → ℕ → A → A → List A
started_list xs n free some x y = if nat_lt 0 free then slice_set (xs ++ replicate (all_count n free some - n) x) n y else xs ++ replicate (all_count n free some - n) x

abbrev own_list : {A : Type 0} → List A → ℕ → ℕ → ℕ → A → A → A → List A
own_list xs n free some x y z = if nat_lt 0 some then slice_set (started_list xs n free some x y) (all_count n free some - 1) z else started_list xs n free some x y

-- where there is something to count, the first is taken
if_some : {A : Type 0} (n : ℕ) (x y : A) → (if nat_lt 0 (suc n) then x else y) ≡ x
if_some n x y = let there : nat_lt 0 (suc n) ≡ true = grind (arith, nat_tests) in ap (λ (b : Bool). if b then x else y) there

own_list_is : {A : Type 0} (xs : List A) (free some : ℕ) (x y z : A) → own_list xs (length xs) free some x y z ≡ or_one x (xs ++ where_some free y ++ where_some some z)
own_list_is [] zero zero x y z = refl
own_list_is (v ∷ vs) zero zero x y z =
    let none : all_count (length (v ∷ vs)) zero zero - length (v ∷ vs) ≡ 0 = omega arith in
    ap (λ (k : ℕ). (v ∷ vs) ++ replicate k x) none ∙ sym (append-nil ((v ∷ vs) ++ []))
own_list_is xs (suc free) zero x y z =
    let one : all_count (length xs) (suc free) zero - length xs ≡ 1 = omega arith in
    if_some free (slice_set (xs ++ replicate (all_count (length xs) (suc free) zero - length xs) x) (length xs) y) (xs ++ replicate (all_count (length xs) (suc free) zero - length xs) x)
    ∙ ap (λ (k : ℕ). slice_set (xs ++ replicate k x) (length xs) y) one ∙ set_behind xs (x ∷ []) y (omega arith) ∙ sym (or_one_is x y xs [])
own_list_is xs zero (suc some) x y z =
    let one : all_count (length xs) zero (suc some) - length xs ≡ 1 = omega arith in
    let last : all_count (length xs) zero (suc some) - 1 ≡ length xs = omega arith in
    if_some some (slice_set (xs ++ replicate (all_count (length xs) zero (suc some) - length xs) x) (all_count (length xs) zero (suc some) - 1) z) (xs ++ replicate (all_count (length xs) zero (suc some) - length xs) x)
    ∙ ap₂ (λ (k j : ℕ). slice_set (xs ++ replicate k x) j z) one last ∙ set_behind xs (x ∷ []) z (omega arith) ∙ append-nil (xs ++ z ∷ [])
    ∙ sym (ap (λ l. or_one x (l ++ z ∷ [])) (append-nil xs) ∙ ap (or_one x) (sym (append-nil (xs ++ z ∷ []))) ∙ or_one_is x z xs [] ∙ append-nil (xs ++ z ∷ []))
own_list_is xs (suc free) (suc some) x y z =
    let two : all_count (length xs) (suc free) (suc some) - length xs ≡ 2 = omega arith in
    let last : all_count (length xs) (suc free) (suc some) - 1 ≡ length (xs ++ y ∷ []) = (let e = length-append xs (y ∷ []) in omega arith) in
    let kept = xs ++ replicate (all_count (length xs) (suc free) (suc some) - length xs) x in
    if_some some (slice_set (started_list xs (length xs) (suc free) (suc some) x y) (all_count (length xs) (suc free) (suc some) - 1) z) (started_list xs (length xs) (suc free) (suc some) x y)
    ∙ ap (λ l. slice_set l (all_count (length xs) (suc free) (suc some) - 1) z) (if_some free (slice_set kept (length xs) y) kept)
    ∙ ap₂ (λ (k j : ℕ). slice_set (slice_set (xs ++ replicate k x) (length xs) y) j z) two last
    ∙ ap (λ l. slice_set l (length (xs ++ y ∷ [])) z) (set_behind xs (x ∷ x ∷ []) y (omega arith))
    ∙ set_behind (xs ++ y ∷ []) (x ∷ []) z (omega arith) ∙ append-nil ((xs ++ y ∷ []) ++ z ∷ []) ∙ sym (or_one_is x y xs (z ∷ []))

own_in_turn : {A : Type 0} (xs first second third : List A) (n free some : ℕ) (x y z : A) → length xs ≡ n
    → first ≡ xs ++ replicate (all_count n free some - n) x
    → second ≡ (if nat_lt 0 free then slice_set first n y else first)
    → third ≡ (if nat_lt 0 some then slice_set second (all_count n free some - 1) z else second)
    → third ≡ or_one x (xs ++ where_some free y ++ where_some some z)
own_in_turn xs first second third n free some x y z many a b d =
    d
    ∙ ap (λ l. if nat_lt 0 some then slice_set l (all_count n free some - 1) z else l) (b ∙ ap (λ l. if nat_lt 0 free then slice_set l n y else l) a)
    ∙ ap (λ (k : ℕ). own_list xs k free some x y z) (sym many)
    ∙ own_list_is xs free some x y z

-- the kept ones, and those of its own behind them, are all
pub own_set : (c : Circuit) (f : Latch → Latch) (y z : Latch) (fresh first second third : List Latch) → fresh ≡ replicate (latch_count c) fresh_latch
    → first ≡ map f c.latches ++ drop (length c.latches) fresh
    → second ≡ (if nat_lt 0 (free_count c.latches) then slice_set first (length c.latches) y else first)
    → third ≡ (if nat_lt 0 (length c.constraints) then slice_set second (latch_count c - 1) z else second)
    → third ≡ with_own c fresh_latch (map f c.latches) y z
own_set c f y z fresh first second third is a b d =
    own_in_turn (map f c.latches) first second third (length c.latches) (free_count c.latches) (length c.constraints) fresh_latch y z (length-map c.latches f)
    (a ∙ ap (λ (l : List Latch). map f c.latches ++ l) (ap (drop (length c.latches)) is ∙ drop-replicate (length c.latches) (latch_count c) fresh_latch))
    b d
