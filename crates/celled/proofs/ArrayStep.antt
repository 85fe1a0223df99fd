-- A list goes on by a leaf that is added by its cells.
use Rattle.std.proofs.Common.{◌≡◌, ℕ, zero, suc, ◌+◌, ◌*◌, ◌/◌, ◌^◌, ◌≤◌, Bool, true, false, cond, ◌||◌, List, [], ◌∷◌, ◌++◌, map, flat_map, Option, Some, unwrap_or, append-nil, sym, ap, ap₂, subst, ◌∙◌, arith, pow_pos}
use Rattle.std.specs.List.{AllByRecursion}
use Rattle.std.proofs.Math.Nat.{pow-suc, mul-div_cancel}
use Rattle.btor2.specs.declared.item.Item.{Item}
use Rattle.btor2.specs.declared.item.Body.{Body}
use Rattle.btor2.specs.declared.item.Body.TheVariants as body
use Rattle.btor2.specs.Items.{sort_width, width_of_body, is_input, is_state, is_bad, is_constraint}
use Rattle.btor2.specs.Trace.{bits_of}
use Rattle.wide.specs.WideModels.{greatest_width, IsWideModel}
use Rattle.wide.proofs.GrowLemmas.{sort_range}
use Rattle.full.proofs.ListLemmas.{all_with, all_join}
use Rattle.fit.specs.Fitting.{is_output}
use Rattle.fitting.specs.Fitted.{is_leaf, leaf_ids}
use Rattle.fitting.specs.Steps.{leaf_body}
use Rattle.writeout.specs.Faults.{is_live_body}
use Rattle.cells.specs.Lines.{is_plain}
use Rattle.celled.specs.Celled.{HasCells}
use Rattle.celled.specs.Spots.{Spots, layout_by, ids_from}
use Rattle.celled.specs.Split.{Settled, IsOwned}
use Rattle.celled.specs.Steps.{HasSize, cell_lines}
use Rattle.celled.proofs.StandLemmas.{fresh_in, spotted_same}
use Rattle.celled.proofs.CopiedLemmas.{own_spot}
use Rattle.celled.proofs.CopyStep.{one_size}
use Rattle.celled.proofs.OnLemmas.{ids_split, Step}
use Rattle.celled.proofs.ArrayOwn.{IsQuiet, plain_is_quiet, shows_nothing, plain_leaves, all_cells, leaf_is_quiet, cell_leaves, Arrayed, lines_of, lines_are, array_in, widths_in, bits_are, array_stands}

-- ---- how many cells

pub record Sized (width size : ℕ) : Type 0 where
  pub some : 1 ≤ size
  pub power : (k : ℕ) × (width / size ≡ 2 ^ k)
  pub whole : width / size * size ≡ width
  pub many : 2 ≤ width / size

pub sized : (width size : ℕ) → (k : ℕ) × (width ≡ 2 ^ k * size) → 1 ≤ width → (width ≡ size → ⊥) → Sized width size
sized width size h least other = by h.0 h.1
  where
    positive : (k : ℕ) → width ≡ 2 ^ k * size → 1 ≤ size
    positive k e = from size e
      where
        from : (n : ℕ) → width ≡ 2 ^ k * n → 1 ≤ n
        from zero e = absurd (omega (arith, e, least))
        from (suc n) e = omega arith

    by : (k : ℕ) → width ≡ 2 ^ k * size → Sized width size
    by zero e = absurd (other (e ∙ omega arith))
    by (suc k) e =
        let some = positive (suc k) e in
        let count : width / size ≡ 2 ^ suc k = ap (λ (n : ℕ). n / size) e ∙ mul-div_cancel (2 ^ suc k) some in
        let power : 2 ^ suc k ≡ 2 ^ k + 2 ^ k = pow-suc 2 k ∙ omega arith in
        let least : 1 ≤ 2 ^ k = pow_pos k in
        record { some = some; power = (suc k, count); whole = ap (λ (n : ℕ). n * size) count ∙ sym e; many = omega (arith, count, power, least) }

-- ---- the step

quiet_lines : (front : List Item) (t : Spots) (celled : List Item) (x : Item) (input : Bool) (s node first count size : ℕ) (t' : Spots) (celled' : List Item) (place : ℕ) (c : Arrayed front t celled x input s node first count size t' celled' place)
    → AllByRecursion (λ (y : Item). IsQuiet y.body) (lines_of front t celled x input s node first count size t' celled' place c)
quiet_lines front t celled x input s node first count size t' celled' place c =
    let cells = cell_lines input c.array.sort x.symbol first 0 count in
    all_join (λ (y : Item). IsQuiet y.body) c.array.grows.more (cells ++ c.array.behind.more)
    (all_with (λ (y : Item). is_plain y.body ≡ true) (λ (y : Item). IsQuiet y.body) c.array.grows.more (λ y plain. plain_is_quiet y.body plain) c.array.grows.plain)
    (all_join (λ (y : Item). IsQuiet y.body) cells c.array.behind.more (all_cells (λ (y : Item). IsQuiet y.body) input c.array.sort x.symbol first 0 count (λ k j. leaf_is_quiet input c.array.sort))
    (all_with (λ (y : Item). is_plain y.body ≡ true) (λ (y : Item). IsQuiet y.body) c.array.behind.more (λ y plain. plain_is_quiet y.body plain) c.array.behind.plain))

plain_unowned : (front : List Item) (t : Spots) (b : Body) → is_plain b ≡ true → IsOwned front t b
plain_unowned front t (body.Init s p c) h = absurd (cc)
plain_unowned front t (body.Next s p c) h = absurd (cc)
plain_unowned front t _ h = tt

leaf_unowned : (front : List Item) (t : Spots) (input : Bool) (s : ℕ) → IsOwned front t (leaf_body input s)
leaf_unowned front t true s = tt
leaf_unowned front t false s = tt

one_leaf_id : (f : ℕ → List ℕ) (x : Item) → is_leaf x ≡ true → flat_map f (leaf_ids (x ∷ [])) ≡ f x.id
one_leaf_id f x h = by (is_leaf x) h
  where
    by : (b : Bool) → b ≡ true → flat_map f (map (λ (y : Item). y.id) (cond b (x ∷ []) [])) ≡ f x.id
    by true e = append-nil (f x.id)
    by false e = absurd (cc)

leaf_is_leaf : (x : Item) (input : Bool) (s : ℕ) → x.body ≡ leaf_body input s → is_leaf x ≡ true
leaf_is_leaf x true s e = ap (λ (b : Body). is_input b || is_state b) e
leaf_is_leaf x false s e = ap (λ (b : Body). is_input b || is_state b) e

lines_leaves : (front : List Item) (t : Spots) (celled : List Item) (x : Item) (input : Bool) (s node first count size : ℕ) (t' : Spots) (celled' : List Item) (place : ℕ) (c : Arrayed front t celled x input s node first count size t' celled' place)
    → leaf_ids (lines_of front t celled x input s node first count size t' celled' place c) ≡ ids_from first count
lines_leaves front t celled x input s node first count size t' celled' place c =
    let cells = cell_lines input c.array.sort x.symbol first 0 count in
    ids_split is_leaf c.array.grows.more (cells ++ c.array.behind.more) ∙ ap₂ ◌++◌ (plain_leaves c.array.grows.more c.array.grows.plain)
    (ids_split is_leaf cells c.array.behind.more ∙ ap₂ ◌++◌ (cell_leaves input c.array.sort x.symbol first 0 count) (plain_leaves c.array.behind.more c.array.behind.plain) ∙ append-nil (ids_from first count))

pub array_step : (front : List Item) (t : Spots) (celled : List Item) (x : Item) (input : Bool) (s node first count size : ℕ) (t' : Spots) (celled' : List Item) (place : ℕ) → Arrayed front t celled x input s node first count size t' celled' place → Step front t celled x size t' celled'
array_step front t celled x input s node first count size t' celled' place c =
    let more = lines_of front t celled x input s node first count size t' celled' place c in
    let quiet = quiet_lines front t celled x input s node first count size t' celled' place c in
    let own : IsQuiet x.body = subst IsQuiet (sym c.leaf) (leaf_is_quiet input s) in
    let cells : Settled (front ++ x ∷ []) t' celled' (λ w u n. HasCells (layout_by u) n x.id size) =
    λ w u n g.
    let i = array_in front t celled x input s node first count size t' celled' place w u n c g in
    subst (AllByRecursion (λ p. bits_of n p ≡ size)) (sym i.layout) (bits_are n size (ids_from first count) (widths_in front t celled x input s node first count size c.array.sort w u n i)) in
    let lines = cell_lines input c.array.sort x.symbol first 0 count in
    record {
      accepted = c.accepted;
      more = more;
      is = lines_are front t celled x input s node first count size t' celled' place c;
      same = spotted_same front t t' x.id node first count place (fresh_in front x c.accepted) c.spots;
      own = array_stands front t celled x input s node first count size t' celled' place c;
      inputs = λ w u n g. one_size (λ z. is_input z.body) x size (HasCells (layout_by u) n) (is_input x.body) (λ is. cells w u n g);
      states = λ w u n g. one_size (λ z. is_state z.body) x size (HasCells (layout_by u) n) (is_state x.body) (λ is. cells w u n g);
      leaves = one_leaf_id (layout_by t') x (leaf_is_leaf x input s c.leaf) ∙ ap₂ ids_from (c.spots.first_at x.id ∙ own_spot x.id first (t.first x.id)) (c.spots.count_at x.id ∙ own_spot x.id count (t.count x.id))
          ∙ sym (lines_leaves front t celled x input s node first count size t' celled' place c);
      owners = all_join (λ (y : Item). IsOwned (front ++ x ∷ []) t' y.body) c.array.grows.more (lines ++ c.array.behind.more)
          (all_with (λ (y : Item). is_plain y.body ≡ true) (λ (y : Item). IsOwned (front ++ x ∷ []) t' y.body) c.array.grows.more (λ y plain. plain_unowned (front ++ x ∷ []) t' y.body plain) c.array.grows.plain)
          (all_join (λ (y : Item). IsOwned (front ++ x ∷ []) t' y.body) lines c.array.behind.more (all_cells (λ (y : Item). IsOwned (front ++ x ∷ []) t' y.body) input c.array.sort x.symbol first 0 count (λ k j. leaf_unowned (front ++ x ∷ []) t' input c.array.sort))
          (all_with (λ (y : Item). is_plain y.body ≡ true) (λ (y : Item). IsOwned (front ++ x ∷ []) t' y.body) c.array.behind.more (λ y plain. plain_unowned (front ++ x ∷ []) t' y.body plain) c.array.behind.plain));
      bads = shows_nothing is_bad x t' more own.0 (all_with (λ (y : Item). IsQuiet y.body) (λ (y : Item). is_bad y.body ≡ false) more (λ y q. q.0) quiet);
      constraints = shows_nothing is_constraint x t' more own.1 (all_with (λ (y : Item). IsQuiet y.body) (λ (y : Item). is_constraint y.body ≡ false) more (λ y q. q.1) quiet);
      outputs = shows_nothing is_output x t' more own.2 (all_with (λ (y : Item). IsQuiet y.body) (λ (y : Item). is_output y.body ≡ false) more (λ y q. q.2) quiet);
      forms = λ none. all_with (λ (y : Item). IsQuiet y.body) (λ (y : Item). is_live_body y.body ≡ false) more (λ y q. q.3) quiet;
    }

-- ---- of a leaf's line

pub leaf_sort_width : (front : List Item) (input : Bool) (s : ℕ) (b : Body) (width : ℕ) → b ≡ leaf_body input s → width_of_body front b ≡ Some width → sort_width front s ≡ Some width
leaf_sort_width front true s b width e h = sym (ap (width_of_body front) e) ∙ h
leaf_sort_width front false s b width e h = sym (ap (width_of_body front) e) ∙ h

pub leaf_sized : (front : List Item) (x : Item) (input : Bool) (s width size : ℕ) → IsWideModel greatest_width front → x.body ≡ leaf_body input s → width_of_body front x.body ≡ Some width → HasSize front x size → (width ≡ size → ⊥) → Sized width size
leaf_sized front x input s width size w e h has other =
    let sort = leaf_sort_width front input s x.body width e h in
    let range = sort_range greatest_width front s width w sort in
    let size_at = has (leaf_is_leaf x input s e) in
    let least : 1 ≤ width = range.0 in
    sized width size (size_at.0, sym (ap (λ (o : Option ℕ). unwrap_or o 0) h) ∙ size_at.1) least other

pub leaf_most : (front : List Item) (x : Item) (input : Bool) (s width : ℕ) → IsWideModel greatest_width front → x.body ≡ leaf_body input s → width_of_body front x.body ≡ Some width → width ≤ greatest_width
leaf_most front x input s width w e h = (sort_range greatest_width front s width w (leaf_sort_width front input s x.body width e h)).1
