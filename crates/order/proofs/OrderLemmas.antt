-- Orders and circles.
use Rattle.std.proofs.Common.{◌≡◌, ℕ, zero, suc, ◌<◌, inl, inr, List, [], ◌∷◌, Some, unwrap_or, length, slice_get, take, sym, ap, ◌∙◌, arith}
use Rattle.std.specs.Prelude.{Contains}
use Rattle.std.specs.List.{AllByRecursion}
use Rattle.std.proofs.lemmas.List.{length-take, get_or-take}
use Rattle.std.proofs.lemmas.List.Elements.{All-contains, All-from_recursion}
use Rattle.std.proofs.lemmas.Option.{slice_get_within, slice_get_past, slice_get-get_or, get_or_from_slice_get}
use Rattle.std.proofs.lemmas.Bool.{cases_lt}
use Rattle.order.specs.Orders.{needs_of, IsOrder, IsPath, IsInCircle}
use Rattle.order.proofs.CountLemmas.{contained, place, same_place, as_long}

-- each number with a row stands in an order, at one place alone, and no other number
pub order_stands : (needs : List (List ℕ)) (list : List ℕ) (k : ℕ) → IsOrder needs list → k < length needs → Contains list k
order_stands needs list k o h = contained k list (omega (arith, o.once k h))

pub order_within : (needs : List (List ℕ)) (list : List ℕ) (i k : ℕ) → IsOrder needs list → slice_get list i ≡ Some k → k < length needs
order_within needs list i k o e = All-contains (λ m. m < length needs) list k (All-from_recursion (λ m. m < length needs) list o.numbers) (i, slice_get_within list i k e, get_or_from_slice_get list i k k e)

pub order_apart : (needs : List (List ℕ)) (list : List ℕ) (i j k : ℕ) → IsOrder needs list → slice_get list i ≡ Some k → slice_get list j ≡ Some k → i ≡ j
order_apart needs list i j k o e f = same_place k list i j (omega (arith, o.once k (order_within needs list i k o e))) e f

pub order_length : (needs : List (List ℕ)) (list : List ℕ) → IsOrder needs list → length list ≡ length needs
order_length needs list o = as_long (length needs) list o.numbers o.once

-- a number that needs another has a row
pub has_row : (needs : List (List ℕ)) (k m : ℕ) → Contains (needs_of needs k) m → k < length needs
has_row needs k m c = elim (cases_lt k (length needs)) [
  | inl h ↦ h
  | inr h ↦
      let none : needs_of needs k ≡ [] = ap (λ row. unwrap_or row []) (slice_get_past needs k h) in
      absurd (omega (arith, c.1, ap length none))
]

-- what a number at a place of an order needs stands at an earlier place
stands_before : (needs : List (List ℕ)) (list : List ℕ) (i k m : ℕ) → IsOrder needs list → slice_get list i ≡ Some k → Contains (needs_of needs k) m → (j : ℕ) × (j < i) × (slice_get list j ≡ Some m)
stands_before needs list i k m o e c =
    let front = All-contains (Contains (take i list)) (needs_of needs k) m (All-from_recursion (Contains (take i list)) (needs_of needs k) (o.behind i k e)) c in
    let low : front.0 < i = omega (arith, front.1, length-take i list) in
    let inside : front.0 < length list = omega (arith, front.1, length-take i list) in
    (front.0, low, slice_get-get_or list front.0 m inside ∙ ap (λ x. Some x) (sym (get_or-take i list front.0 m low) ∙ front.2))

path_before : (needs : List (List ℕ)) (list : List ℕ) (i k : ℕ) (between : List ℕ) (m : ℕ) → IsOrder needs list → slice_get list i ≡ Some k → IsPath needs k between m → (j : ℕ) × (j < i) × (slice_get list j ≡ Some m)
path_before needs list i k [] m o e p = stands_before needs list i k m o e p
path_before needs list i k (next ∷ between) m o e p =
    let first = stands_before needs list i k next o e p.0 in
    let rest = path_before needs list first.0 next between m o first.2 p.1 in
    (rest.0, omega (arith, first.1, rest.1), rest.2)

-- what holds of all that is needed holds of a number that is needed, and of one that a path leads to
pub needed : (P : ℕ → Type 0) (needs : List (List ℕ)) (k m : ℕ) → AllByRecursion (AllByRecursion P) needs → Contains (needs_of needs k) m → P m
needed P [] k m a c = absurd (omega (arith, c.1))
needed P (row ∷ needs) zero m a c = All-contains P row m (All-from_recursion P row a.0) c
needed P (row ∷ needs) (suc k) m a c = needed P needs k m a.1 c

pub path_needed : (P : ℕ → Type 0) (needs : List (List ℕ)) (k : ℕ) (between : List ℕ) (m : ℕ) → AllByRecursion (AllByRecursion P) needs → IsPath needs k between m → P m
path_needed P needs k [] m a p = needed P needs k m a p
path_needed P needs k (next ∷ between) m a p = path_needed P needs next between m a p.1

path_has_row : (needs : List (List ℕ)) (k : ℕ) (between : List ℕ) (m : ℕ) → IsPath needs k between m → k < length needs
path_has_row needs k [] m p = has_row needs k m p
path_has_row needs k (next ∷ between) m p = has_row needs k next p.0

pub circle_within : (needs : List (List ℕ)) (k : ℕ) → IsInCircle needs k → k < length needs
circle_within needs k c = path_has_row needs k c.0 k c.1

-- where there is an order, no number lies on a circle
pub no_circle : (needs : List (List ℕ)) (list : List ℕ) (k : ℕ) → IsOrder needs list → IsInCircle needs k → ⊥
no_circle needs list k o c =
    let at = place k list (omega (arith, o.once k (circle_within needs k c))) in
    let before = path_before needs list at.0 k c.0 k o at.1 c.1 in
    omega (arith, before.1, order_apart needs list at.0 before.0 k o at.1 before.2)
