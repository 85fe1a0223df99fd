-- Where lines stand by their ids, and what lines need.
use Rattle.std.proofs.Common.{◌≡◌, ℕ, zero, suc, ◌<◌, Bool, true, false, cond, List, [], ◌∷◌, map, length, slice_get, get_or, Option, Some, None, is_some, option_map, refl, ap, subst, ◌∙◌}
use Rattle.std.specs.List.{AllByRecursion}
use Rattle.std.proofs.lemmas.Option.{none-some, same_Some, slice_get_within, slice_get-map, slice_get_read}
use Rattle.btor2.specs.Items.{is_state}
use Rattle.btor2.proofs.AppendLemmas.{some_of, is_some_from}
use Rattle.full.specs.Lines.{Operand, FullLine, operands_of, is_form, find_line, sort_named, sort_of_node, init_of}
use Rattle.full.specs.Agreement.{IsFullModel}
use Rattle.fullmodel.specs.declared.line.Line.{Line}
use Rattle.fullmodel.specs.Lines.{line_of}
use Rattle.full.proofs.FullLookUps.{node_found, each_found, AreNodes, each_nodes, init_nodes, init_said}
use Rattle.writeout.specs.declared.way.Way.{Way}
use Rattle.writeout.specs.declared.way.Way.TheVariants as way
use Rattle.writeout.specs.Ways.{way_of}
use Rattle.writeout.proofs.PlaceLemmas.{place_get}
use Rattle.writeout.specs.Needs.{AreFound, place_of, init_ids, first_ids, needed}

-- ---- lists

-- what holds of each element holds of one
pub all_get : {A : Type 0} (P : A → Type 0) (xs : List A) (k : ℕ) (x : A) → AllByRecursion P xs → slice_get xs k ≡ Some x → P x
all_get P [] k x h e = absurd (none-some x e)
all_get P (y ∷ ys) zero x h e = subst P (same_Some y x e) h.0
all_get P (y ∷ ys) (suc k) x h e = all_get P ys k x h.1 e

-- a line that is kept stands among the lines
pub line_there : (lines : List Line) (full : List FullLine) (k : ℕ) (x : Line) → map line_of lines ≡ full → k < length lines → x ≡ get_or lines k x → slice_get full k ≡ Some (line_of x)
line_there lines full k x e within at =
    subst (λ (l : List FullLine). slice_get l k ≡ Some (line_of x)) e (slice_get-map line_of lines k ∙ ap (option_map line_of) (slice_get_read lines (length lines) k x refl within at))

-- ---- places

-- a line of a model is found by its id
pub found_at : (lines : List FullLine) (k : ℕ) (x : FullLine) → IsFullModel lines → slice_get lines k ≡ Some x → find_line lines x.id ≡ Some x
found_at lines k x h e = all_get (λ (y : FullLine). find_line lines y.id ≡ Some y) lines k x (each_found lines h) e

pub place_within : (lines : List FullLine) (id : ℕ) → is_some (find_line lines id) ≡ true → place_of lines id < length lines
place_within lines id some = let found = some_of (find_line lines id) some in slice_get_within lines (place_of lines id) found.0 (place_get lines id found.0 found.1)

-- ---- what is needed is there

-- ids are those of nodes with a value
abbrev pub AreValued : List FullLine → List ℕ → Type 0
AreValued full ids = AllByRecursion (λ a. is_some (sort_of_node full a) ≡ true) ids

operands_valued : (full : List FullLine) (os : List Operand) → AreNodes full os → AreValued full (map (λ (o : Operand). o.id) os)
operands_valued full [] h = tt
operands_valued full (o ∷ os) h = (h.0, operands_valued full os h.1)

init_valued : (full : List FullLine) (id : ℕ) → IsFullModel full → AreValued full (init_ids (init_of full id))
init_valued full id h = by (init_of full id) refl
  where
    by : (o : Option Operand) → init_of full id ≡ o → AreValued full (init_ids o)
    by None e = tt
    by (Some o) e = (init_said (λ t v. is_some (sort_of_node full v.id) ≡ true) full id o (init_nodes full h) e, tt)

first_valued : (full : List FullLine) (w : Way) (o : Option Operand) → AreValued full (init_ids o) → AreValued full (first_ids w o)
first_valued full way.First o h = h
first_valued full _ o h = tt

pub needed_valued : (full : List FullLine) (k : ℕ) (x : FullLine) → IsFullModel full → slice_get full k ≡ Some x → AreValued full (needed full x)
needed_valued full k x h e = by (is_form is_state x.says) (is_some (sort_named x.says))
  where
    by : (b c : Bool) → AreValued full (cond b (first_ids (way_of full x.id) (init_of full x.id)) (cond c (map (λ (o : Operand). o.id) (operands_of x.says)) []))
    by true c = first_valued full (way_of full x.id) (init_of full x.id) (init_valued full x.id h)
    by false true = operands_valued full (operands_of x.says) (all_get (λ (y : FullLine). AreNodes full (operands_of y.says)) full k x (each_nodes full h) e)
    by false false = tt

pub needed_found : (full : List FullLine) (k : ℕ) (x : FullLine) → IsFullModel full → slice_get full k ≡ Some x → AreFound full (needed full x)
needed_found full k x h e = each (needed full x) (needed_valued full k x h e)
  where
    each : (ids : List ℕ) → AreValued full ids → AreFound full ids
    each [] h = tt
    each (a ∷ ids) h = let found = node_found full a h.0 in (is_some_from (find_line full a) found.0 found.1, each ids h.1)
