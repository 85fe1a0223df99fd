-- Rows kept in one list: one row more, how many there are, the row at a place, and all values.
use Rattle.std.proofs.Common.{◌≡◌, ℕ, zero, suc, ◌<◌, ◌≤◌, List, [], ◌∷◌, ◌++◌, length, map, get_or, take, drop, slice_get, Some, refl, sym, ap, ap₂, ◌∙◌, arith, length-append, length-drop}
use Rattle.std.specs.List.{slice_range, flat_map}
use Rattle.std.proofs.lemmas.List.{take_all, take-append-le, drop-append-le, take-append-drop, length-take-le, drop_all, drop_at, take_at, map-append, length-map}
use Rattle.std.proofs.lemmas.Slice.{between_is}
use Rattle.base.specs.Rows.{rows_from, AreEnds}

-- no row begins behind the end
start_within : (start : ℕ) (ends : List ℕ) (total : ℕ) → AreEnds start ends total → start ≤ total
start_within start [] total e = omega arith
start_within start (end' ∷ ends) total e = omega (arith, start_within end' ends total e.1)

-- one row more
pub AreEnds-push : (start : ℕ) (ends : List ℕ) (total more : ℕ) → AreEnds start ends total → total ≤ more → AreEnds start (ends ++ more ∷ []) more
AreEnds-push start [] total more e h = (omega arith, refl)
AreEnds-push start (end' ∷ ends) total more e h = (e.0, AreEnds-push end' ends total more e.1 h)

rows_from-push : {T : Type 0} (start : ℕ) (ends : List ℕ) (values row : List T) → AreEnds start ends (length values) → rows_from start (ends ++ length (values ++ row) ∷ []) (values ++ row) ≡ rows_from start ends values ++ row ∷ []
rows_from-push start [] values row e =
    let all = between_is (values ++ row) start (length (values ++ row)) ∙ ap (drop start) (take_all (length (values ++ row)) (values ++ row) (omega arith)) ∙ drop_at values row start (sym e) in
    ap (λ r. r ∷ []) all
rows_from-push start (end' ∷ ends) values row e =
    let kept = between_is (values ++ row) start end' ∙ ap (drop start) (take-append-le end' values row (start_within end' ends (length values) e.1)) ∙ sym (between_is values start end') in
    ap₂ ◌∷◌ kept (rows_from-push end' ends values row e.1)

-- both, where ends and values are what they came to be
pub one_more : {T : Type 0} (ends ends' : List ℕ) (values values' row : List T) (end' : ℕ) → AreEnds 0 ends (length values) → end' ≡ length values' → ends' ≡ ends ++ end' ∷ [] → values' ≡ values ++ row
    → AreEnds 0 ends' (length values') × (rows_from 0 ends' values' ≡ rows_from 0 ends values ++ row ∷ [])
one_more ends ends' values values' row end' e n is_ends is_values =
    let now : ends' ≡ ends ++ length (values ++ row) ∷ [] = is_ends ∙ ap (λ k. ends ++ k ∷ []) (n ∙ ap length is_values) in
    let more = AreEnds-push 0 ends (length values) (length (values ++ row)) e (omega (arith, length-append values row)) in
    (rw (now, is_values) more, rw (now, is_values) (rows_from-push 0 ends values row e))

-- there are as many rows as ends
pub length-rows_from : {T : Type 0} (start : ℕ) (ends : List ℕ) (values : List T) → length (rows_from start ends values) ≡ length ends
length-rows_from start [] values = refl
length-rows_from start (end' ∷ ends) values = ap suc (length-rows_from end' ends values)

-- the row at a place, and where it begins and ends
pub rows_from-at : {T : Type 0} (start : ℕ) (ends : List ℕ) (values : List T) (k : ℕ) → k < length ends → slice_get (rows_from start ends values) k ≡ Some (slice_range values (get_or (start ∷ ends) k 0) (get_or ends k 0))
rows_from-at start [] values k h = absurd (omega arith)
rows_from-at start (end' ∷ ends) values zero h = refl
rows_from-at start (end' ∷ ends) values (suc k) h = rows_from-at end' ends values k (omega arith)

pub AreEnds-at : (start : ℕ) (ends : List ℕ) (total k : ℕ) → AreEnds start ends total → k < length ends → (get_or (start ∷ ends) k 0 ≤ get_or ends k 0) × (get_or ends k 0 ≤ total)
AreEnds-at start [] total k e h = absurd (omega arith)
AreEnds-at start (end' ∷ ends) total zero e h = (e.0, start_within end' ends total e.1)
AreEnds-at start (end' ∷ ends) total (suc k) e h = AreEnds-at end' ends total k e.1 (omega arith)

-- the values of all rows, from the first row's place on
values_from : {T : Type 0} (start : ℕ) (ends : List ℕ) (values : List T) → AreEnds start ends (length values) → flat_map (λ row. row) (rows_from start ends values) ≡ drop start values
values_from start [] values e = sym (drop_all start values (omega (arith, e)))
values_from start (end' ∷ ends) values e =
    let long : length (take end' values) ≡ end' = length-take-le end' values (start_within end' ends (length values) e.1) in
    ap₂ ◌++◌ (between_is values start end') (values_from end' ends values e.1)
    ∙ sym (drop-append-le start (take end' values) (drop end' values) (omega (arith, long, e.0)))
    ∙ ap (drop start) (take-append-drop end' values)

pub all_values : {T : Type 0} (ends : List ℕ) (values : List T) → AreEnds 0 ends (length values) → flat_map (λ row. row) (rows_from 0 ends values) ≡ values
all_values ends values e = values_from 0 ends values e

-- the ends alone say how long the rows are
pub lengths_by_ends : {T : Type 0} (start : ℕ) (ends : List ℕ) (values other : List T) → AreEnds start ends (length values) → length other ≡ length values → map length (rows_from start ends other) ≡ map length (rows_from start ends values)
lengths_by_ends start [] values other e h = refl
lengths_by_ends start (end' ∷ ends) values other e h =
    let within = start_within end' ends (length values) e.1 in
    let here : length (slice_range other start end') ≡ length (slice_range values start end') = ap length (between_is other start end') ∙ omega (arith, length-drop start (take end' other), length-drop start (take end' values), length-take-le end' other (omega (arith, within, h)), length-take-le end' values within) ∙ sym (ap length (between_is values start end')) in
    ap₂ ◌∷◌ here (lengths_by_ends end' ends values other e.1 h)

-- rows are what their lengths and their values say
pub rows_alike : {T : Type 0} (rows other : List (List T)) → flat_map (λ row. row) rows ≡ flat_map (λ row. row) other → map length rows ≡ map length other → rows ≡ other
rows_alike [] [] e h = refl
rows_alike [] (o ∷ other) e h = absurd (cc)
rows_alike (r ∷ rows) [] e h = absurd (cc)
rows_alike (r ∷ rows) (o ∷ other) e h =
    let n : length r ≡ length o = cc in
    let rest : map length rows ≡ map length other = cc in
    let first : r ≡ o = sym (take_at r (flat_map (λ row. row) rows) (length r) refl) ∙ ap (take (length r)) e ∙ take_at o (flat_map (λ row. row) other) (length r) (sym n) in
    let behind : flat_map (λ row. row) rows ≡ flat_map (λ row. row) other = sym (drop_at r (flat_map (λ row. row) rows) (length r) refl) ∙ ap (drop (length r)) e ∙ drop_at o (flat_map (λ row. row) other) (length r) (sym n) in
    ap₂ ◌∷◌ first (rows_alike rows other behind rest)

-- and so rows of other values in their places are these rows, mapped
values-map : {T : Type 0} (f : T → T) (rows : List (List T)) → flat_map (λ row. row) (map (map f) rows) ≡ map f (flat_map (λ row. row) rows)
values-map f [] = refl
values-map f (r ∷ rows) = ap (λ vs. map f r ++ vs) (values-map f rows) ∙ sym (map-append f r (flat_map (λ row. row) rows))

lengths-map : {T : Type 0} (f : T → T) (rows : List (List T)) → map length (map (map f) rows) ≡ map length rows
lengths-map f [] = refl
lengths-map f (r ∷ rows) = ap₂ ◌∷◌ (length-map r f) (lengths-map f rows)

pub mapped_rows : {T : Type 0} (f : T → T) (rows new : List (List T)) → flat_map (λ row. row) new ≡ map f (flat_map (λ row. row) rows) → map length new ≡ map length rows → new ≡ map (map f) rows
mapped_rows f rows new e h = rows_alike new (map (map f) rows) (e ∙ sym (values-map f rows)) (h ∙ sym (lengths-map f rows))
