-- Lists of numbers, and a number taken out of one.
use Rattle.std.proofs.Common.{◌≡◌, ◌≢◌, ℕ, zero, suc, ◌+◌, ◌-◌, ◌<◌, ◌≤◌, List, [], ◌∷◌, ◌++◌, length, get_or, set, take, ⊎_elim, refl, sym, ap, subst, ◌∙◌, arith, length-take-le, get_or-take}
use Rattle.std.proofs.lemmas.Bool.{cases_eq}
use Rattle.std.proofs.lemmas.List.{length-set, length-map, get_or-map, get_or-set_same, get_or-set_other, set-get_or, get_or_at, get_or_append_left, ext_get_or}
use Rattle.std.proofs.lemmas.Grind.{get_or_default_zero}
use Rattle.std.specs.Prelude.{map, replicate}
use Rattle.std.specs.List.{swap_remove}
use Rattle.drup.specs.Lists.{list_at, numbered, AreNumbered}

pub map-set : {V : Type 0} (f : V → List ℕ) (xs : List V) (l : ℕ) (w : V) → map f (set xs l w) ≡ set (map f xs) l (f w)
map-set f [] l w = refl
map-set f (x ∷ xs) zero w = refl
map-set f (x ∷ xs) (suc l) w = ap (λ (ys : List (List ℕ)). f x ∷ ys) (map-set f xs l w)

pub list_is : {V : Type 0} (f : V → List ℕ) (xs : List V) (l : ℕ) (v : V) → l < length xs → v ≡ get_or xs l v → list_at (map f xs) l ≡ f v
list_is f xs l v h is = get_or-map f xs l v [] h ∙ ap f (sym is)

pub put_list : {V : Type 0} (f : V → List ℕ) (xs : List V) (l : ℕ) (v w : V) (g : List ℕ → List ℕ) → l < length xs → v ≡ get_or xs l v → f w ≡ g (f v) → map f (set xs l w) ≡ set (map f xs) l (g (list_at (map f xs) l))
put_list f xs l v w g h is e = map-set f xs l w ∙ ap (set (map f xs) l) (e ∙ ap g (ap f is ∙ sym (get_or-map f xs l v [] h)))

pub same_list : {V : Type 0} (f : V → List ℕ) (xs : List V) (l : ℕ) (v w : V) → l < length xs → v ≡ get_or xs l v → f w ≡ f v → map f (set xs l w) ≡ map f xs
same_list f xs l v w h is e = put_list f xs l v w (λ ys. ys) h is e ∙ set-get_or (map f xs) l []

-- A number taken out: the last one takes its place.

pub length-swap_remove : (xs : List ℕ) (place : ℕ) → place < length xs → length (swap_remove xs place 0) + 1 ≡ length xs
length-swap_remove xs place h = omega (arith, length-take-le (length xs - 1) (set xs place (get_or xs (length xs - 1) 0)) (omega (arith, length-set xs place (get_or xs (length xs - 1) 0))))

read_removed : (xs : List ℕ) (place j : ℕ) → place < length xs → j + 1 < length xs → get_or (swap_remove xs place 0) j 0 ≡ get_or (set xs place (get_or xs (length xs - 1) 0)) j 0
read_removed xs place j h k = get_or-take (length xs - 1) (set xs place (get_or xs (length xs - 1) 0)) j 0 (omega arith)

abbrev pub Stays : List ℕ → ℕ → ℕ → Type 0
Stays xs place j = (i : ℕ) × (place ≤ j → place ≤ i) × (i < length (swap_remove xs place 0)) × (get_or (swap_remove xs place 0) i 0 ≡ get_or xs j 0)

pub stays : (xs : List ℕ) (place j : ℕ) → place < length xs → j < length xs → j ≢ place → Stays xs place j
stays xs place j h k ne =
    ⊎_elim
    (λ (e : j ≡ length xs - 1).
    (place, λ _. omega arith, omega (arith, length-swap_remove xs place h), read_removed xs place place h (omega arith) ∙ get_or-set_same xs place (get_or xs (length xs - 1) 0) 0 h ∙ ap (λ (i : ℕ). get_or xs i 0) (sym e)))
    (λ (last : j ≢ length xs - 1).
    (j, λ up. up, omega (arith, length-swap_remove xs place h), read_removed xs place j h (omega arith) ∙ get_or-set_other xs place j (get_or xs (length xs - 1) 0) 0 ne))
    (cases_eq j (length xs - 1))

pub removed_default : (xs : List ℕ) (place d : ℕ) → place < length xs → swap_remove xs place d ≡ swap_remove xs place 0
removed_default xs place d h =
    let inside : length xs - 1 < length xs = omega arith in
    ap (λ (x : ℕ). take (length xs - 1) (set xs place x)) (get_or_default_zero xs (length xs - 1) d inside)

-- Lists by their numbers.

-- the list of a literal
pub numbered_at : (numbers : List ℕ) (lists : List (List ℕ)) (l : ℕ) → l < length numbers → list_at (numbered numbers lists) l ≡ list_at lists (get_or numbers l 0)
numbered_at numbers lists l h = get_or-map (list_at lists) numbers l 0 [] h

-- a literal gets a list of its own
pub numbered_more : (numbers : List ℕ) (lists : List (List ℕ)) (l : ℕ) → AreNumbered numbers lists → l < length numbers → get_or numbers l 0 ≡ 0 → numbered (set numbers l (length lists)) (lists ++ [] ∷ []) ≡ numbered numbers lists
numbered_more numbers lists l is h none =
    ext_get_or [] (numbered (set numbers l (length lists)) (lists ++ [] ∷ [])) (numbered numbers lists) (length-map (set numbers l (length lists)) (list_at (lists ++ [] ∷ [])) ∙ many ∙ sym (length-map numbers (list_at lists))) at
  where
    many : length (set numbers l (length lists)) ≡ length numbers
    many = length-set numbers l (length lists)

    same : (i : ℕ) → i < length numbers → list_at (lists ++ [] ∷ []) (get_or (set numbers l (length lists)) i 0) ≡ list_at lists (get_or numbers i 0)
    same i low =
        ⊎_elim
        (λ (e : i ≡ l).
        ap (λ (k : ℕ). list_at (lists ++ [] ∷ []) (get_or (set numbers l (length lists)) k 0)) e ∙ ap (list_at (lists ++ [] ∷ [])) (get_or-set_same numbers l (length lists) 0 h) ∙ get_or_at lists [] [] [] (length lists) refl
        ∙ sym is.none ∙ ap (list_at lists) (sym none) ∙ ap (λ (k : ℕ). list_at lists (get_or numbers k 0)) (sym e))
        (λ (other : i ≢ l). ap (list_at (lists ++ [] ∷ [])) (get_or-set_other numbers l i (length lists) 0 other) ∙ get_or_append_left lists ([] ∷ []) [] (get_or numbers i 0) (is.inside i low))
        (cases_eq i l)

    at : (i : ℕ) → i < length (numbered (set numbers l (length lists)) (lists ++ [] ∷ [])) → list_at (numbered (set numbers l (length lists)) (lists ++ [] ∷ [])) i ≡ list_at (numbered numbers lists) i
    at i low =
        let inside : i < length numbers = omega (arith, low, many, length-map (set numbers l (length lists)) (list_at (lists ++ [] ∷ []))) in
        numbered_at (set numbers l (length lists)) (lists ++ [] ∷ []) i (omega (arith, inside, many)) ∙ same i inside ∙ sym (numbered_at numbers lists i inside)

-- the own list of a literal becomes another
pub numbered_set : (numbers : List ℕ) (lists : List (List ℕ)) (l n : ℕ) (x : List ℕ) → AreNumbered numbers lists → l < length numbers → n ≡ get_or numbers l 0 → 0 < n → numbered numbers (set lists n x) ≡ set (numbered numbers lists) l x
numbered_set numbers lists l n x is h there some =
    ext_get_or [] (numbered numbers (set lists n x)) (set (numbered numbers lists) l x) (length-map numbers (list_at (set lists n x)) ∙ sym (length-set (numbered numbers lists) l x ∙ long)) at
  where
    long : length (numbered numbers lists) ≡ length numbers
    long = length-map numbers (list_at lists)

    same : (i : ℕ) → i < length numbers → list_at (set lists n x) (get_or numbers i 0) ≡ get_or (set (numbered numbers lists) l x) i []
    same i low =
        ⊎_elim
        (λ (e : i ≡ l).
        ap (λ (k : ℕ). list_at (set lists n x) (get_or numbers k 0)) e ∙ ap (list_at (set lists n x)) (sym there) ∙ get_or-set_same lists n x [] (subst (λ (k : ℕ). k < length lists) (sym there) (is.inside l h))
        ∙ sym (get_or-set_same (numbered numbers lists) l x [] (omega (arith, h, long))) ∙ ap (λ (k : ℕ). get_or (set (numbered numbers lists) l x) k []) (sym e))
        (λ (other : i ≢ l).
        get_or-set_other lists n (get_or numbers i 0) x [] (λ (e : get_or numbers i 0 ≡ n). other (is.own i l low h (e ∙ there) (omega (arith, e, some))))
        ∙ sym (get_or-set_other (numbered numbers lists) l i x [] other ∙ numbered_at numbers lists i low))
        (cases_eq i l)

    at : (i : ℕ) → i < length (numbered numbers (set lists n x)) → list_at (numbered numbers (set lists n x)) i ≡ get_or (set (numbered numbers lists) l x) i []
    at i low =
        let inside : i < length numbers = omega (arith, low, length-map numbers (list_at (set lists n x))) in
        numbered_at numbers (set lists n x) i inside ∙ same i inside

-- a list that has a number is not the first
pub own_number : (lists : List (List ℕ)) (n : ℕ) → list_at lists 0 ≡ [] → 0 < length (list_at lists n) → 0 < n
own_number lists zero none some = absurd (omega (arith, some, ap length none))
own_number lists (suc n) none some = omega arith

none_more : (n : ℕ) → ((k : ℕ) → list_at (numbered (replicate n 0) ([] ∷ [])) k ≡ []) → (k : ℕ) → list_at (numbered (replicate (suc n) 0) ([] ∷ [])) k ≡ []
none_more n none zero = refl
none_more n none (suc k) = none k

-- no literal has a list of its own
pub numbered_none : (limit : ℕ) → (length (numbered (replicate limit 0) ([] ∷ [])) ≡ limit) × ((k : ℕ) → list_at (numbered (replicate limit 0) ([] ∷ [])) k ≡ [])
numbered_none zero = (refl, λ k. refl)
numbered_none (suc n) = let rest = numbered_none n in (ap suc rest.0, none_more n rest.1)
