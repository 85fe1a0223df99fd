-- A list in which each cell of an array has a leaf has a leaf for each word by which a value is told.
use Rattle.std.proofs.Common.{◌≡◌, ℕ, zero, suc, ◌*◌, ◌/◌, ◌<◌, Bool, true, false, cond, ◌&&◌, ◌||◌, List, [], ◌∷◌, ◌++◌, map, flat_map, filter, length, replicate, Option, Some, None, IfSome, unwrap_or, refl, sym, ap, ap₂, subst, append-nil, append_assoc, ◌∙◌, ◌≤◌, arith}
use Rattle.std.specs.List.{AllByRecursion, AllZip}
use Rattle.std.proofs.lemmas.Bool.{true≢false}
use Rattle.std.proofs.lemmas.List.{length-map}
use Rattle.std.proofs.Math.Nat.{mul-div_cancel}
use Rattle.btor2.specs.declared.item.Item.{Item}
use Rattle.btor2.specs.declared.item.Body.{Body}
use Rattle.btor2.specs.declared.item.Body.TheVariants as body
use Rattle.btor2.specs.Items.{find_item, is_input, is_state, is_free, is_carried_state, names_state}
use Rattle.btor2.specs.Trace.{bits_of}
use Rattle.btor2.proofs.IdLemmas.{state_item}
use Rattle.btor2.proofs.ModelLemmas.{IsIn-from_find}
use Rattle.wide.specs.WideModels.{greatest_width, IsWideModel}
use Rattle.full.specs.Lines.{Says, form, FullLine, Sort, words, arrays, find_line, is_form, lines_of, full_ids, sort_of, size_of}
use Rattle.full.specs.WrittenOut.{Places, one_id, LeafIsWritten, IsFirstAlone, IsWrittenOut}
use Rattle.full.proofs.ListLemmas.{all_with, all_both, all_at}
use Rattle.full.proofs.FullLookUps.{each_found}
use Rattle.full.proofs.NextsLemmas.{each_has_next as each_has_next_line}
use Rattle.full.proofs.PlaceLemmas.{stands_as_state, first_is_carried}
use Rattle.fit.specs.Fitting.{Layout, is_given, HasWidthOfPieces, IsFittingOf}
use Rattle.fit.proofs.ListLemmas.{of_ids}
use Rattle.celled.specs.Celled.{HasCells, IsCelledOf}
use Rattle.celled.specs.Written.{cell_bits, cells_among, leaf_cells}
use Rattle.celled.proofs.WrittenLemmas.{input_at, state_at, own_width}
use Rattle.spread.proofs.WidthLemmas.{HaveBits}
use Rattle.spread.proofs.WideShapeLemmas.{states_have_sort, inputs_have_sort, leaves_range}
use Rattle.btor2.specs.Lists.{first_init_without_next}
use Rattle.fulljudge.specs.Shapes.{Leaf, leaf_of, word_count, word_width}
use Rattle.fulljudge.specs.Cells.{HasWords, HasWordsOf}
use Rattle.fulljudge.proofs.FirstLemmas.{total_width}
use Rattle.fulljudge.proofs.DifferLemmas.{carried_pieces}

-- ---- widths of leaves

given_state : (i s f : Bool) → s ≡ true → f ≡ true → (i || (s && f)) ≡ true
given_state true s f e d = refl
given_state false true true e d = refl
given_state false true false e d = absurd (cc d)
given_state false false f e d = absurd (cc e)

module _ (wide celled : List Item) (layout : Layout) (fits : IsFittingOf wide layout celled) where
  abbrev Has : ℕ → Type 0
  Has a = HasWidthOfPieces wide layout celled a

  of_given : (x : Item) (before after : List Item) → wide ≡ before ++ x ∷ after → is_given wide x ≡ true → Has x.id
  of_given x before after e is =
      all_at (λ (y : Item). is_given wide y ≡ true → Has y.id) before after x (subst (AllByRecursion (λ (y : Item). is_given wide y ≡ true → Has y.id)) e (of_ids Has (is_given wide) wide fits.given_widths)) is

  of_carried : (x : Item) (before after : List Item) → wide ≡ before ++ x ∷ after → is_carried_state wide x ≡ true → Has x.id
  of_carried x before after e is =
      all_at (λ (y : Item). is_carried_state wide y ≡ true → Has y.id) before after x (subst (AllByRecursion (λ (y : Item). is_carried_state wide y ≡ true → Has y.id)) e (of_ids Has (is_carried_state wide) wide fits.carried_widths)) is

  state_width : (a : ℕ) → names_state wide a ≡ true → Has a
  state_width a names =
      let found = state_item wide a names in
      subst Has (sym found.2) (by found.0 found.1.before found.1.after found.1.splits found.3 (is_free wide found.0.id) refl)
    where
      by : (x : Item) (before after : List Item) → wide ≡ before ++ x ∷ after → is_state x.body ≡ true → (b : Bool) → is_free wide x.id ≡ b → Has x.id
      by x before after e is true free = of_given x before after e (given_state (is_input x.body) (is_state x.body) (is_free wide x.id) is free)
      by x before after e is false free = of_carried x before after e (rw (is, free) refl)

  input_width : (a : ℕ) (y : Item) → find_item wide a ≡ Some y → is_input y.body ≡ true → Has a
  input_width a y e is =
      let inside = IsIn-from_find wide a y e in
      subst Has (sym inside.1) (of_given y inside.0.before inside.0.after inside.0.splits (ap (λ (b : Bool). b || (is_state y.body && is_free wide y.id)) is))

-- ---- words

same_count : (a b n : ℕ) → 0 < b * n → a * n ≡ b * n → a ≡ b
same_count a b zero h e = absurd (omega (arith, h))
same_count a b (suc n) h e = sym (mul-div_cancel a (omega arith)) ∙ ap (λ (x : ℕ). x / suc n) e ∙ mul-div_cancel b (omega arith)

cell_is : (o : Option Sort) → cell_bits o ≡ word_width (unwrap_or o (words 0))
cell_is None = refl
cell_is (Some (words n)) = refl
cell_is (Some (arrays k n)) = refl

size_is : (o : Option Sort) → 0 < size_of o → size_of o ≡ word_count (unwrap_or o (words 0)) * word_width (unwrap_or o (words 0))
size_is None h = absurd (omega (arith, h))
size_is (Some (words n)) h = omega arith
size_is (Some (arrays k n)) h = refl

all_replicate : (f : ℕ → ℕ) (n : ℕ) (ps : List ℕ) → AllByRecursion (λ p. f p ≡ n) ps → map f ps ≡ replicate (length ps) n
all_replicate f n [] h = refl
all_replicate f n (p ∷ ps) h = ap₂ ◌∷◌ h.0 (all_replicate f n ps h.1)

-- what is known of the leaf of a line
pub record LeafKnown (full : List FullLine) (wide celled : List Item) (layout : Layout) (place : ℕ → ℕ) (x : FullLine) : Type 0 where
  pub some : 0 < bits_of wide (place x.id)
  pub bits : bits_of wide (place x.id) ≡ size_of (sort_of full x.says)
  pub pieces : HasWidthOfPieces wide layout celled (place x.id)

words_of_leaf : (full : List FullLine) (wide celled : List Item) (layout : Layout) (place : ℕ → ℕ) (x : FullLine) → LeafKnown full wide celled layout place x → HasCells layout celled (place x.id) (cell_bits (sort_of full x.says))
    → HasWords layout celled place (leaf_of full x)
words_of_leaf full wide celled layout place x known cells =
    let s : Sort = unwrap_or (sort_of full x.says) (words 0) in
    let each : AllByRecursion (λ p. bits_of celled p ≡ word_width s) (layout (place x.id)) = subst (λ (n : ℕ). AllByRecursion (λ p. bits_of celled p ≡ n) (layout (place x.id))) (cell_is (sort_of full x.says)) cells in
    let size : size_of (sort_of full x.says) ≡ word_count s * word_width s = size_is (sort_of full x.says) (subst (λ (n : ℕ). 0 < n) known.bits known.some) in
    let total : length (layout (place x.id)) * word_width s ≡ word_count s * word_width s = sym (total_width (bits_of celled) (layout (place x.id)) (word_width s) each) ∙ sym known.pieces ∙ known.bits ∙ size in
    let count : length (layout (place x.id)) ≡ word_count s = same_count (length (layout (place x.id))) (word_count s) (word_width s) (subst (λ (n : ℕ). 0 < n) (known.bits ∙ size) known.some) total in
    all_replicate (bits_of celled) (word_width s) (layout (place x.id)) each ∙ ap (λ (m : ℕ). replicate m (word_width s)) count

kind_words : (full : List FullLine) (wide celled : List Item) (layout : Layout) (place : ℕ → ℕ) (kind : Body → Bool) (xs : List FullLine) → AllByRecursion (λ (x : FullLine). is_form kind x.says ≡ true → LeafKnown full wide celled layout place x) xs
    → AllZip (HasCells layout celled) (map place (full_ids kind xs)) (cells_among kind full xs) → AllByRecursion (HasWords layout celled place) (map (leaf_of full) (lines_of kind xs))
kind_words full wide celled layout place kind [] known cells = tt
kind_words full wide celled layout place kind (x ∷ xs) known cells = by (is_form kind x.says) refl cells (kind_words full wide celled layout place kind xs known.1)
  where
    by : (b : Bool) → is_form kind x.says ≡ b
        → AllZip (HasCells layout celled) (map place (map (λ (y : FullLine). y.id) (cond b (x ∷ lines_of kind xs) (lines_of kind xs)))) (map (λ (y : FullLine). cell_bits (sort_of full y.says)) (cond b (x ∷ lines_of kind xs) (lines_of kind xs)))
        → (AllZip (HasCells layout celled) (map place (full_ids kind xs)) (cells_among kind full xs) → AllByRecursion (HasWords layout celled place) (map (leaf_of full) (lines_of kind xs)))
        → AllByRecursion (HasWords layout celled place) (map (leaf_of full) (cond b (x ∷ lines_of kind xs) (lines_of kind xs)))
    by true e cells rest = (words_of_leaf full wide celled layout place x (known.0 e) cells.0, rest cells.1)
    by false e cells rest = rest cells

zip_front : {A B : Type 0} (P : A → B → Type 0) (xs more : List A) (ys rest : List B) → length xs ≡ length ys → AllZip P (xs ++ more) (ys ++ rest) → AllZip P xs ys
zip_front P [] more [] rest e h = tt
zip_front P [] more (y ∷ ys) rest e h = absurd (cc)
zip_front P (x ∷ xs) more [] rest e h = absurd (cc)
zip_front P (x ∷ xs) more (y ∷ ys) rest e h = (h.0, zip_front P xs more ys rest (omega (arith, e)) h.1)

-- the pieces of leaves, leaf by leaf
leaf_pieces : (full : List FullLine) (layout : Layout) (place : ℕ → ℕ) (xs : List FullLine) → flat_map layout (map place (map (λ (x : FullLine). x.id) xs)) ≡ flat_map (λ (l : Leaf). layout (place l.id)) (map (leaf_of full) xs)
leaf_pieces full layout place [] = refl
leaf_pieces full layout place (x ∷ xs) = ap (λ (l : List ℕ). layout (place x.id) ++ l) (leaf_pieces full layout place xs)

flat_join : {A B : Type 0} (f : A → List B) (xs ys : List A) → flat_map f (xs ++ ys) ≡ flat_map f xs ++ flat_map f ys
flat_join f [] ys = refl
flat_join f (x ∷ xs) ys = ap (λ l. f x ++ l) (flat_join f xs ys) ∙ sym (append_assoc (f x) (flat_map f xs) (flat_map f ys))

-- what holds of what is made of the items of a kind
from_filter : (Q : ℕ → Type 0) (f : Item → ℕ) (kind : Item → Bool) (xs : List Item) → AllByRecursion Q (map f (filter kind xs)) → AllByRecursion (λ (x : Item). kind x ≡ true → Q (f x)) xs
from_filter Q f kind [] h = tt
from_filter Q f kind (x ∷ xs) h = by (kind x) refl h (from_filter Q f kind xs)
  where
    by : (b : Bool) → kind x ≡ b → AllByRecursion Q (map f (cond b (x ∷ filter kind xs) (filter kind xs))) → (AllByRecursion Q (map f (filter kind xs)) → AllByRecursion (λ (y : Item). kind y ≡ true → Q (f y)) xs)
        → AllByRecursion (λ (y : Item). kind y ≡ true → Q (f y)) (x ∷ xs)
    by true e h rest = ((λ is. h.0), rest h.1)
    by false e h rest = ((λ is. absurd (true≢false (sym is ∙ e))), rest h)

module _ (wide : List Item) (model : IsWideModel greatest_width wide) where
  has_bits : (kind : Body → Bool) → HaveBits (map (λ (x : Item). bits_of wide x.id) (filter (λ (x : Item). kind x.body) wide)) → (x : Item) (before after : List Item) → wide ≡ before ++ x ∷ after → kind x.body ≡ true → 0 < bits_of wide x.id
  has_bits kind have x before after e is =
      (all_at (λ (y : Item). kind y.body ≡ true → (0 < bits_of wide y.id) × (bits_of wide y.id ≤ greatest_width)) before after x
      (subst (AllByRecursion (λ (y : Item). kind y.body ≡ true → (0 < bits_of wide y.id) × (bits_of wide y.id ≤ greatest_width))) e
      (from_filter (λ n. (0 < n) × (n ≤ greatest_width)) (λ (y : Item). bits_of wide y.id) (λ (y : Item). kind y.body) wide have)) is).0

  state_has_bits : (a : ℕ) → names_state wide a ≡ true → 0 < bits_of wide a
  state_has_bits a names =
      let found = state_item wide a names in
      subst (λ (k : ℕ). 0 < bits_of wide k) (sym found.2) (has_bits is_state (leaves_range is_state states_have_sort wide [] wide refl model) found.0 found.1.before found.1.after found.1.splits found.3)

  input_has_bits : (a : ℕ) (y : Item) → find_item wide a ≡ Some y → is_input y.body ≡ true → 0 < bits_of wide a
  input_has_bits a y e is =
      let inside = IsIn-from_find wide a y e in
      subst (λ (k : ℕ). 0 < bits_of wide k) (sym inside.1) (has_bits is_input (leaves_range is_input inputs_have_sort wide [] wide refl model) y inside.0.before inside.0.after inside.0.splits is)

input_stands : (full : List FullLine) (p : Places) (wide : List Item) (id : ℕ) (b : Says) → is_form is_input b ≡ true → LeafIsWritten full p wide id b → (y : Item) × (find_item wide (p.node id) ≡ Some y) × (is_input y.body ≡ true)
input_stands full p wide id (form (body.Input s) minuses) is h = let stands = h.0.1 in (stands.0, stands.1, ap is_input stands.2)
input_stands full p wide id (form _ minuses) is h = absurd (cc)
input_stands full p wide id _ is h = absurd (cc)

state_stands : (full : List FullLine) (p : Places) (wide : List Item) (id : ℕ) (b : Says) → is_form is_state b ≡ true → LeafIsWritten full p wide id b → names_state wide (p.leaf id) ≡ true
state_stands full p wide id (form (body.State s) minuses) is h = h.state
state_stands full p wide id (form _ minuses) is h = absurd (cc)
state_stands full p wide id _ is h = absurd (cc)

-- ---- the list

module _ (full : List FullLine) (p : Places) (wide celled : List Item) (h : IsWrittenOut full p wide) (k : IsCelledOf wide (leaf_cells is_input full) (leaf_cells is_state full ++ map (λ w. 1) (one_id p.first)) celled) where
  known_lines : AllByRecursion (λ (x : FullLine). (find_line full x.id ≡ Some x) × LeafIsWritten full p wide x.id x.says) full
  known_lines = all_both (λ (x : FullLine). find_line full x.id ≡ Some x) (λ (x : FullLine). LeafIsWritten full p wide x.id x.says) full (each_found full h.agrees) h.leaves

  inputs_known : AllByRecursion (λ (x : FullLine). is_form is_input x.says ≡ true → LeafKnown full wide celled k.layout p.node x) full
  inputs_known =
      all_with (λ (x : FullLine). (find_line full x.id ≡ Some x) × LeafIsWritten full p wide x.id x.says) (λ (x : FullLine). is_form is_input x.says ≡ true → LeafKnown full wide celled k.layout p.node x) full
      (λ x both is.
      let y = input_stands full p wide x.id x.says is both.1 in
      record { some = input_has_bits wide h.well_formed (p.node x.id) y.0 y.1 y.2; bits = input_at full p wide x.id x.says is both.1 ∙ own_width full x both.0; pieces = input_width wide celled k.layout k.fits (p.node x.id) y.0 y.1 y.2 })
      known_lines

  states_known : AllByRecursion (λ (x : FullLine). is_form is_state x.says ≡ true → LeafKnown full wide celled k.layout p.leaf x) full
  states_known =
      all_with (λ (x : FullLine). (find_line full x.id ≡ Some x) × LeafIsWritten full p wide x.id x.says) (λ (x : FullLine). is_form is_state x.says ≡ true → LeafKnown full wide celled k.layout p.leaf x) full
      (λ x both is.
      let names = state_stands full p wide x.id x.says is both.1 in
      record { some = state_has_bits wide h.well_formed (p.leaf x.id) names; bits = state_at full p wide x.id x.says is both.1 ∙ own_width full x both.0; pieces = state_width wide celled k.layout k.fits (p.leaf x.id) names })
      known_lines

  states_zip : AllZip (HasCells k.layout celled) (map p.leaf (full_ids is_state full)) (leaf_cells is_state full)
  states_zip =
      zip_front (HasCells k.layout celled) (map p.leaf (full_ids is_state full)) (one_id p.first) (leaf_cells is_state full) (map (λ w. 1) (one_id p.first))
      (length-map (full_ids is_state full) p.leaf ∙ length-map (lines_of is_state full) (λ (x : FullLine). x.id) ∙ sym (length-map (lines_of is_state full) (λ (x : FullLine). cell_bits (sort_of full x.says))))
      (subst (λ (ids : List ℕ). AllZip (HasCells k.layout celled) ids (leaf_cells is_state full ++ map (λ w. 1) (one_id p.first))) (sym h.states) k.state_cells)

  first_carried : (o : Option ℕ) → IfSome o (IsFirstAlone full p wide) → AllByRecursion (λ q. is_free celled q ≡ false) (flat_map k.layout (one_id o))
  first_carried None first = tt
  first_carried (Some w) first =
      subst (AllByRecursion (λ q. is_free celled q ≡ false)) (sym (append-nil (k.layout w)))
      (carried_pieces wide celled k.layout k.fits w (stands_as_state wide w first.state.0 first.state.1) (first_is_carried full p wide w first))

  pub has_words : HasWordsOf full p wide k.layout celled
  has_words =
      record {
        fits = k.fits;
        inputs = sym (leaf_pieces full k.layout p.node (lines_of is_input full)) ∙ ap (flat_map k.layout) h.inputs ∙ k.input_leaves;
        more = flat_map k.layout (one_id p.first);
        states = ap (λ (l : List ℕ). l ++ flat_map k.layout (one_id p.first)) (sym (leaf_pieces full k.layout p.leaf (lines_of is_state full)))
            ∙ sym (flat_join k.layout (map p.leaf (full_ids is_state full)) (one_id p.first)) ∙ ap (flat_map k.layout) h.states ∙ k.state_leaves;
        carried = first_carried p.first h.first;
        input_words = kind_words full wide celled k.layout p.node is_input full inputs_known (subst (λ (ids : List ℕ). AllZip (HasCells k.layout celled) ids (leaf_cells is_input full)) (sym h.inputs) k.input_cells);
        state_words = kind_words full wide celled k.layout p.leaf is_state full states_known states_zip;
      }

  pub each_has_next : first_init_without_next celled celled ≡ None
  each_has_next = k.nexts (each_has_next_line full p wide h)
  -- a state that is 1 in the first frame alone has a word of its own
