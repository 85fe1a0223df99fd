-- Lines one after the other get their nodes, in an order.
use Rattle.std.proofs.Common.{◌≡◌, ℕ, ◌+◌, ◌<◌, ◌≤◌, ◌⊎◌, inl, inr, Bool, true, false, List, [], ◌∷◌, length, take, slice_get, Some, is_some, refl, sym, ap, subst, subst₂, ◌∙◌, arith}
use Rattle.std.specs.Prelude.{Contains}
use Rattle.std.specs.List.{AllByRecursion}
use Rattle.std.proofs.lemmas.List.{length-take, get_or-take}
use Rattle.std.proofs.lemmas.Option.{same_Some, slice_get_within, slice_get-get_or}
use Rattle.std.proofs.lemmas.Bool.{cases_lt}
use Rattle.btor2.specs.Items.{is_input}
use Rattle.full.specs.Lines.{FullLine, is_form, sort_named}
use Rattle.full.specs.Agreement.{IsFullModel}
use Rattle.full.specs.Runs.{at_place}
use Rattle.writeout.specs.Needs.{place_of, needed, IsLineOrder}
use Rattle.writeout.specs.Writings.{Writing, IsGiven, with_items}
use Rattle.writeout.specs.Nodes.{NeedsDone, IsPutAt}
use Rattle.writeout.specs.Leaves.{LeavesWritten}
use Rattle.writeout.specs.Late.{LateWritten}
use Rattle.writeout.specs.LateLines.{StandsAt}
use Rattle.writeout.specs.Ordered.{OrderPut}
use Rattle.writeout.proofs.PlaceLemmas.{node_line}
use Rattle.writeout.proofs.NeedLemmas.{AreValued, needed_valued}
use Rattle.writeout.proofs.LeafLemmas.{leaves_grow, leaves_with, late_grow, late_with}

-- a number in the front of a list stands at a place of the front
in_front : (list : List ℕ) (i a : ℕ) → Contains (take i list) a → (j : ℕ) × (j < i) × (slice_get list j ≡ Some a)
in_front list i a c =
    let low : c.0 < i = omega (arith, c.1, length-take i list) in
    (c.0, low, slice_get-get_or list c.0 a (omega (arith, c.1, length-take i list)) ∙ ap (λ (n : ℕ). Some n) (sym (get_or-take i list c.0 a low) ∙ c.2))

-- what the next line of an order needs has its nodes
pub order_needs : (full : List FullLine) (list : List ℕ) (i place : ℕ) (w : Writing) (x : FullLine) → IsFullModel full → IsLineOrder full list → OrderPut full list i w → slice_get list i ≡ Some place → slice_get full place ≡ Some x
    → NeedsDone full w x
order_needs full list i place w x model order h at there = each (needed full x) (order.behind i place x at there) (needed_valued full place x model there)
  where
    each : (ids : List ℕ) → AllByRecursion (λ a. Contains (take i list) (place_of full a)) ids → AreValued full ids → AllByRecursion (λ a. IsGiven (at_place w.nodes (place_of full a))) ids
    each [] c v = tt
    each (a ∷ ids) c v =
        let front = in_front list i (place_of full a) c.0 in
        let line = node_line full a v.0 in (
          h.done front.0 (place_of full a) line.line front.1 front.2 line.at line.value,
          each ids c.1 v.1,
        )

-- and so has it
pub order_step : (full : List FullLine) (list : List ℕ) (i place : ℕ) (w new : Writing) → slice_get list i ≡ Some place → OrderPut full list i w → IsPutAt full place w new → OrderPut full list (i + 1) new
order_step full list i place w new at h s = record {
  nodes = s.stands;
  leaves = moved (LeavesWritten full) (leaves_with full (with_items w new.items) new.nodes same s.kept (leaves_grow full w new.items s.grows h.leaves));
  late = moved (LateWritten full []) (late_with full [] (with_items w new.items) new.nodes s.kept (late_grow full [] w new.items s.grows h.late));
  done = λ j k x low at' there named. by j k x (cases_lt j i) low at' there named (is_form is_input x.says) refl;
}
  where
    moved : (P : Writing → Type 0) → P (record (with_items w new.items) { nodes = new.nodes }) → P new
    moved P stands = subst₂ (λ (l : List ℕ) (f : ℕ). P (record { items = new.items; nodes = new.nodes; leaves = l; first = f })) (sym s.leaves) (sym s.first) stands

    same : length new.nodes ≡ length w.nodes
    same = s.stands.nodes_length ∙ sym h.nodes.nodes_length

    still : (k : ℕ) → IsGiven (at_place w.nodes k) → IsGiven (at_place new.nodes k)
    still k given = subst (λ (n : ℕ). IsGiven n) (sym (s.kept k given)) given

    by : (j k : ℕ) (x : FullLine) → (j < i) ⊎ (i ≤ j) → j < i + 1 → slice_get list j ≡ Some k → slice_get full k ≡ Some x → is_some (sort_named x.says) ≡ true → (b : Bool) → is_form is_input x.says ≡ b → IsGiven (at_place new.nodes k)
    by j k x before low at' there named true input = still k (h.leaves.inputs k x there input).given
    by j k x (inl before) low at' there named false input = still k (h.done j k x before at' there named)
    by j k x (inr last) low at' there named false input =
        let here : j ≡ i = omega (arith, low, last) in
        let place_same : place ≡ k = same_Some place k (sym at ∙ ap (slice_get list) (sym here) ∙ at') in
        subst (λ (n : ℕ). IsGiven (at_place new.nodes n)) place_same (s.node x (ap (slice_get full) place_same ∙ there) named input)

-- behind the last line of an order each line has its node
pub order_end : (full : List FullLine) (list : List ℕ) (count : ℕ) (w : Writing) → length list ≤ count → IsLineOrder full list → OrderPut full list count w → StandsAt full [] w
order_end full list count w all order h = record {
  nodes = h.nodes;
  each = λ k x there named.
      let c = order.stands k (slice_get_within full k x there) in
      h.done c.0 k x (omega (arith, c.1, all)) (slice_get-get_or list c.0 k c.1 ∙ ap (λ (n : ℕ). Some n) c.2) there named;
  leaves = h.leaves;
  late = h.late;
}
