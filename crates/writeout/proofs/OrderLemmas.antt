-- Orders and circles of the places of lines are those of the lines.
use Rattle.std.proofs.Common.{◌≡◌, ℕ, zero, suc, ◌<◌, Bool, true, false, cond, List, [], ◌∷◌, map, take, length, slice_get, Option, Some, None, is_some, option_map, unwrap_or, refl, sym, ap, subst, ◌∙◌, arith}
use Rattle.std.specs.Prelude.{Contains}
use Rattle.std.specs.List.{AllByRecursion}
use Rattle.std.proofs.lemmas.Option.{none-some, same_Some, slice_get-map, slice_get_within, slice_get-get_or, get_or_from_slice_get}
use Rattle.std.proofs.lemmas.List.{length-map}
use Rattle.btor2.specs.Items.{is_state}
use Rattle.btor2.proofs.AppendLemmas.{some_of}
use Rattle.full.specs.Lines.{Operand, FullLine, operands_of, is_form, find_line, sort_named, init_of}
use Rattle.full.specs.Agreement.{IsFullModel}
use Rattle.order.specs.Orders.{needs_of, AreNumbers, IsOrder, IsPath, IsInCircle}
use Rattle.order.proofs.OrderLemmas.{order_stands, order_within, circle_within}
use Rattle.writeout.specs.declared.way.Way.{Way}
use Rattle.writeout.specs.declared.way.Way.TheVariants as way
use Rattle.writeout.specs.Ways.{way_of}
use Rattle.writeout.specs.Needs.{AreFound, place_of, init_ids, first_ids, needed, row_of, IsLineOrder, depends_on, depends_at, IsDependence, IsCircle}
use Rattle.writeout.proofs.PlaceLemmas.{found_id, place_get}
use Rattle.writeout.proofs.NeedLemmas.{all_get, found_at, place_within, needed_found}

-- ---- rows

-- the rows of a model
abbrev pub rows_of : List FullLine → List (List ℕ)
rows_of full = map (row_of full) full

-- that of a place is the row of its line
row_at : (full : List FullLine) (k : ℕ) (x : FullLine) → slice_get full k ≡ Some x → needs_of (rows_of full) k ≡ row_of full x
row_at full k x e = ap (λ (o : Option (List ℕ)). unwrap_or o []) (slice_get-map (row_of full) full k ∙ ap (option_map (row_of full)) e)

row_below : (full : List FullLine) (ids : List ℕ) → AreFound full ids → AllByRecursion (λ m. m < length full) (map (place_of full) ids)
row_below full [] h = tt
row_below full (a ∷ ids) h = (place_within full a h.0, row_below full ids h.1)

rows_below : (full xs : List FullLine) → ((k : ℕ) (x : FullLine) → slice_get xs k ≡ Some x → AreFound full (needed full x)) → AllByRecursion (AllByRecursion (λ m. m < length full)) (map (row_of full) xs)
rows_below full [] h = tt
rows_below full (x ∷ xs) h = (row_below full (needed full x) (h 0 x refl), rows_below full xs (λ k. h (suc k)))

-- they are rows of places
pub rows_are_numbers : (full : List FullLine) → IsFullModel full → AreNumbers (rows_of full)
rows_are_numbers full h =
    subst (λ (n : ℕ). AllByRecursion (AllByRecursion (λ m. m < n)) (rows_of full)) (sym (length-map full (row_of full))) (rows_below full full (λ k x. needed_found full k x h))

-- ---- orders

all_unmapped : (P : ℕ → Type 0) (f : ℕ → ℕ) (ids : List ℕ) → AllByRecursion P (map f ids) → AllByRecursion (λ a. P (f a)) ids
all_unmapped P f [] h = tt
all_unmapped P f (a ∷ ids) h = (h.0, all_unmapped P f ids h.1)

pub line_order : (full : List FullLine) (list : List ℕ) → IsOrder (rows_of full) list → IsLineOrder full list
line_order full list o = record {
  stands = λ k h. order_stands (rows_of full) list k o (omega (arith, length-map full (row_of full)));
  within = λ i k e. let h = order_within (rows_of full) list i k o e in omega (arith, h, length-map full (row_of full));
  behind = λ i k x e f. all_unmapped (Contains (take i list)) (place_of full) (needed full x) (subst (AllByRecursion (Contains (take i list))) (row_at full k x f) (o.behind i k e));
}

-- ---- circles

contains_from_map : (f : ℕ → ℕ) (ids : List ℕ) (m : ℕ) → Contains (map f ids) m → (a : ℕ) × Contains ids a × (f a ≡ m)
contains_from_map f ids m c =
    let e : option_map f (slice_get ids c.0) ≡ Some m = sym (slice_get-map f ids c.0) ∙ slice_get-get_or (map f ids) c.0 m c.1 ∙ ap (λ (x : ℕ). Some x) c.2 in
    by (slice_get ids c.0) refl e
  where
    by : (o : Option ℕ) → slice_get ids c.0 ≡ o → option_map f o ≡ Some m → (a : ℕ) × Contains ids a × (f a ≡ m)
    by None s e = absurd (none-some m e)
    by (Some a) s e = (a, (c.0, slice_get_within ids c.0 a s, get_or_from_slice_get ids c.0 a a s), same_Some (f a) m e)

pub one_contained : (a m : ℕ) → Contains (a ∷ []) m → a ≡ m
one_contained a m (zero, h, e) = e
one_contained a m (suc k, h, e) = absurd (omega arith)

pub none_contained : {P : Type 0} (a : ℕ) → Contains [] a → P
none_contained a c = absurd (omega (arith, c.1))

first_contained : (w : Way) (o : Option Operand) (a : ℕ) → Contains (first_ids w o) a → Contains (init_ids o) a
first_contained way.First o a c = c
first_contained _ o a c = none_contained a c

-- a line depends on what it needs
needs_depends : (full : List FullLine) (x : FullLine) (a : ℕ) → Contains (needed full x) a → Contains (depends_on full x) a
needs_depends full x a c = by (is_form is_state x.says) (is_some (sort_named x.says)) c
  where
    by : (b d : Bool) → Contains (cond b (first_ids (way_of full x.id) (init_of full x.id)) (cond d (map (λ (o : Operand). o.id) (operands_of x.says)) [])) a
        → Contains (cond b (init_ids (init_of full x.id)) (map (λ (o : Operand). o.id) (operands_of x.says))) a
    by true d k = first_contained (way_of full x.id) (init_of full x.id) a k
    by false true k = k
    by false false k = none_contained a k

-- a place that the row of a line has is that of a line on which it depends
step_depends : (full : List FullLine) (k m : ℕ) (x : FullLine) → IsFullModel full → slice_get full k ≡ Some x → Contains (needs_of (rows_of full) k) m
    → (y : FullLine) × (slice_get full m ≡ Some y) × Contains (depends_at full x.id) y.id
step_depends full k m x h e c =
    let named = contains_from_map (place_of full) (needed full x) m (subst (λ (l : List ℕ). Contains l m) (row_at full k x e) c) in
    let there = all_contained (λ a. is_some (find_line full a) ≡ true) (needed full x) named.0 (needed_found full k x h e) named.1 in
    let found = some_of (find_line full named.0) there in
    let at : slice_get full m ≡ Some found.0 = subst (λ (n : ℕ). slice_get full n ≡ Some found.0) named.2 (place_get full named.0 found.0 found.1) in
    let depends : depends_at full x.id ≡ depends_on full x = ap (λ (o : Option FullLine). unwrap_or (option_map (depends_on full) o) []) (found_at full k x h e) in
    (found.0, at, subst (λ (l : List ℕ). Contains l found.0.id) (sym depends) (subst (Contains (depends_on full x)) (found_id full named.0 found.0 found.1) (needs_depends full x named.0 named.1)))
  where
    all_contained : (P : ℕ → Type 0) (ids : List ℕ) (a : ℕ) → AllByRecursion P ids → Contains ids a → P a
    all_contained P ids a p c = all_get P ids c.0 a p (slice_get-get_or ids c.0 a c.1 ∙ ap (λ (x : ℕ). Some x) c.2)

-- so is a path of places one of lines
path_depends : (full : List FullLine) (k : ℕ) (between : List ℕ) (m : ℕ) (x : FullLine) → IsFullModel full → slice_get full k ≡ Some x → IsPath (rows_of full) k between m
    → (y : FullLine) × (slice_get full m ≡ Some y) × ((more : List ℕ) × IsDependence full x.id more y.id)
path_depends full k [] m x h e p = let step = step_depends full k m x h e p in (step.0, step.1, ([], step.2))
path_depends full k (next ∷ between) m x h e p =
    let step = step_depends full k next x h e p.0 in
    let rest = path_depends full next between m step.0 h step.1 p.1 in
    (rest.0, rest.1, (step.0.id ∷ rest.2.0, (step.2, rest.2.1)))

-- and a circle of places one of lines
pub line_circle : (full : List FullLine) (k : ℕ) (x : FullLine) → IsFullModel full → slice_get full k ≡ Some x → IsInCircle (rows_of full) k → IsCircle full x.id
line_circle full k x h e c =
    let path = path_depends full k c.0 k x h e c.1 in
    (path.2.0, subst (λ (y : FullLine). IsDependence full x.id path.2.0 y.id) (same_Some path.0 x (sym path.1 ∙ e)) path.2.1)

pub place_in_circle : (full : List FullLine) (k : ℕ) → IsInCircle (rows_of full) k → k < length full
place_in_circle full k c = let h = circle_within (rows_of full) k c in omega (arith, h, length-map full (row_of full))
