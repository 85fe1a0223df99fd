-- A list is written line by line, with the cells that are given.
use Rattle.std.proofs.Common.{◌≡◌, ℕ, zero, suc, ◌+◌, ◌<◌, ◌≤◌, Bool, true, false, true≢false, cond, ◌||◌, leb-false, List, [], ◌∷◌, ◌++◌, map, filter, take, drop, length, length-append, get_or, Option, Some, None, unwrap_or, slice_get, append-nil, refl, sym, ap, subst, ◌∙◌, arith}
use Rattle.std.specs.List.{AllZip}
use Rattle.std.proofs.lemmas.Option.{none-some, same_Some}
use Rattle.btor2.specs.declared.item.Item.{Item}
use Rattle.btor2.specs.declared.item.Body.{Body}
use Rattle.btor2.specs.declared.item.Body.TheVariants as body
use Rattle.btor2.specs.Items.{width_of_body, is_input, is_state}
use Rattle.btor2.specs.Trace.{bits_of}
use Rattle.wide.specs.WideModels.{greatest_width, wide_refusal, IsWideModel}
use Rattle.wide.proofs.GrowLemmas.{tests_false, refusal_at}
use Rattle.fit.specs.Fitting.{ids_of}
use Rattle.fitting.specs.Models.{input_ids, state_ids}
use Rattle.celled.specs.Celled.{IsWordOfCells, AreCells}
use Rattle.celled.specs.Spots.{Spots}
use Rattle.celled.specs.Split.{IsSplit}
use Rattle.celled.specs.Steps.{HasSize, SizeIs, SeenBy, size_by, IsSplitTo}
use Rattle.celled.proofs.OnLemmas.{ids_split}
use Rattle.celled.proofs.CallLemmas.{LeafWidth, leaf_width}

-- ---- the lines before a place

front_more : (xs : List Item) (k : ℕ) (x : Item) → slice_get xs k ≡ Some x → take (suc k) xs ≡ take k xs ++ x ∷ []
front_more [] k x e = absurd (none-some x e)
front_more (y ∷ ys) zero x e = ap (λ (z : Item). z ∷ []) (same_Some y x e)
front_more (y ∷ ys) (suc k) x e = ap (λ (l : List Item). y ∷ l) (front_more ys k x e)

pub around : (xs : List Item) (k : ℕ) (x : Item) → slice_get xs k ≡ Some x → xs ≡ take k xs ++ x ∷ drop (suc k) xs
around [] k x e = absurd (none-some x e)
around (y ∷ ys) zero x e = ap (λ (z : Item). z ∷ ys) (same_Some y x e)
around (y ∷ ys) (suc k) x e = ap (λ (l : List Item). y ∷ l) (around ys k x e)

pub before_is : (xs : List Item) (k : ℕ) (x : Item) → slice_get xs k ≡ Some x → length (take k xs) ≡ k
before_is [] k x e = absurd (none-some x e)
before_is (y ∷ ys) zero x e = refl
before_is (y ∷ ys) (suc k) x e = ap suc (before_is ys k x e)

all_of_them : (xs : List Item) → take (length xs) xs ≡ xs
all_of_them [] = refl
all_of_them (x ∷ xs) = ap (λ (l : List Item). x ∷ l) (all_of_them xs)

-- ---- the cells so far

-- the next of two lists
pub record Next (P : ℕ → ℕ → Type 0) (id : ℕ) (ns : List ℕ) (i : ℕ) : Type 0 where
  pub has : P id (get_or ns i 0)
  pub goes_on : take (suc i) ns ≡ take i ns ++ get_or ns i 0 ∷ []

next_of : (P : ℕ → ℕ → Type 0) (before after : List ℕ) (id : ℕ) (ns : List ℕ) → AllZip P (before ++ id ∷ after) ns → Next P id ns (length before)
next_of P [] after id [] h = absurd h
next_of P [] after id (n ∷ ns) h = record { has = h.0; goes_on = refl }
next_of P (b ∷ bs) after id [] h = absurd h
next_of P (b ∷ bs) after id (n ∷ ns) h = let rest = next_of P bs after id ns h.1 in record { has = rest.has; goes_on = ap (λ (l : List ℕ). n ∷ l) rest.goes_on }

zip_whole : (P : ℕ → ℕ → Type 0) (ids ns : List ℕ) → AllZip P ids ns → take (length ids) ns ≡ ns
zip_whole P [] [] h = refl
zip_whole P [] (n ∷ ns) h = absurd h
zip_whole P (a ∷ ids) [] h = absurd h
zip_whole P (a ∷ ids) (n ∷ ns) h = ap (λ (l : List ℕ). n ∷ l) (zip_whole P ids ns h.1)

own_id : (kind : Body → Bool) (x : Item) (after : List Item) → kind x.body ≡ true → ids_of (λ y. kind y.body) (x ∷ after) ≡ x.id ∷ ids_of (λ y. kind y.body) after
own_id kind x after is = by (kind x.body) is
  where
    by : (b : Bool) → b ≡ true → map (λ (y : Item). y.id) (cond b (x ∷ filter (λ y. kind y.body) after) (filter (λ y. kind y.body) after)) ≡ x.id ∷ ids_of (λ y. kind y.body) after
    by true e = refl
    by false e = absurd (cc)

no_id : (kind : Body → Bool) (x : Item) (after : List Item) → kind x.body ≡ false → ids_of (λ y. kind y.body) (x ∷ after) ≡ ids_of (λ y. kind y.body) after
no_id kind x after is = by (kind x.body) is
  where
    by : (b : Bool) → b ≡ false → map (λ (y : Item). y.id) (cond b (x ∷ filter (λ y. kind y.body) after) (filter (λ y. kind y.body) after)) ≡ ids_of (λ y. kind y.body) after
    by true e = absurd (cc)
    by false e = refl

-- the cells of a leaf of a kind
leaf_next : (kind : Body → Bool) (wide front after : List Item) (x : Item) (ns : List ℕ) → wide ≡ front ++ x ∷ after → AreCells wide (ids_of (λ y. kind y.body) wide) ns → kind x.body ≡ true
    → Next (λ id n. IsWordOfCells (bits_of wide id) n) x.id ns (length (ids_of (λ y. kind y.body) front))
leaf_next kind wide front after x ns is cells of =
    let ids : ids_of (λ y. kind y.body) wide ≡ ids_of (λ y. kind y.body) front ++ x.id ∷ ids_of (λ y. kind y.body) after =
    ap (ids_of (λ y. kind y.body)) is ∙ ids_split (λ y. kind y.body) front (x ∷ after) ∙ ap (λ (l : List ℕ). ids_of (λ y. kind y.body) front ++ l) (own_id kind x after of) in
    next_of (λ id n. IsWordOfCells (bits_of wide id) n) (ids_of (λ y. kind y.body) front) (ids_of (λ y. kind y.body) after) x.id ns (subst (λ (l : List ℕ). AreCells wide l ns) ids cells)

-- what a kind has behind one line more
pub record Counted (kind : Body → Bool) (front : List Item) (x : Item) (ns : List ℕ) (i' size : ℕ) : Type 0 where
  pub cells : take i' ns ≡ take (length (ids_of (λ y. kind y.body) front)) ns ++ size_by kind x size
  pub count : i' ≡ length (ids_of (λ y. kind y.body) (front ++ x ∷ []))

size_of_one : (kind : Body → Bool) (x : Item) (size : ℕ) → kind x.body ≡ true → size_by kind x size ≡ size ∷ []
size_of_one kind x size is = by (kind x.body) is
  where
    by : (b : Bool) → b ≡ true → cond b (size ∷ []) [] ≡ size ∷ []
    by true e = refl
    by false e = absurd (cc)

size_of_none : (kind : Body → Bool) (x : Item) (size : ℕ) → kind x.body ≡ false → size_by kind x size ≡ []
size_of_none kind x size is = by (kind x.body) is
  where
    by : (b : Bool) → b ≡ false → cond b (size ∷ []) [] ≡ []
    by true e = absurd (cc)
    by false e = refl

counted : (kind : Body → Bool) (wide front after : List Item) (x : Item) (ns : List ℕ) (i' size : ℕ) → wide ≡ front ++ x ∷ after → AreCells wide (ids_of (λ y. kind y.body) wide) ns
    → (kind x.body ≡ true → (i' ≡ length (ids_of (λ y. kind y.body) front) + 1) × (size ≡ get_or ns (length (ids_of (λ y. kind y.body) front)) 0))
    → (kind x.body ≡ false → i' ≡ length (ids_of (λ y. kind y.body) front)) → Counted kind front x ns i' size
counted kind wide front after x ns i' size is cells if_so if_not = by (kind x.body) refl
  where
    split : ids_of (λ y. kind y.body) (front ++ x ∷ []) ≡ ids_of (λ y. kind y.body) front ++ ids_of (λ y. kind y.body) (x ∷ [])
    split = ids_split (λ (y : Item). kind y.body) front (x ∷ [])

    by : (b : Bool) → kind x.body ≡ b → Counted kind front x ns i' size
    by true of =
        let own = leaf_next kind wide front after x ns is cells of in
        let facts = if_so of in
        let i = length (ids_of (λ y. kind y.body) front) in
        let e : i' ≡ suc i = facts.0 ∙ omega arith in
        record {
          cells = ap (λ (k : ℕ). take k ns) e ∙ own.goes_on ∙ ap (λ (m : ℕ). take i ns ++ m ∷ []) (sym facts.1) ∙ ap (λ (l : List ℕ). take i ns ++ l) (sym (size_of_one kind x size of));
          count = facts.0 ∙ sym (length-append (ids_of (λ y. kind y.body) front) (x.id ∷ [])) ∙ ap (λ (l : List ℕ). length (ids_of (λ y. kind y.body) front ++ l)) (sym (own_id kind x [] of)) ∙ ap length (sym split);
        }
    by false of =
        let e = if_not of in
        let i = length (ids_of (λ y. kind y.body) front) in
        record {
          cells = ap (λ (k : ℕ). take k ns) e ∙ sym (append-nil (take i ns)) ∙ ap (λ (l : List ℕ). take i ns ++ l) (sym (size_of_none kind x size of));
          count = e ∙ ap length (sym (append-nil (ids_of (λ y. kind y.body) front)) ∙ ap (λ (l : List ℕ). ids_of (λ y. kind y.body) front ++ l) (sym (no_id kind x [] of)) ∙ sym split);
        }

-- ---- what a line says of both kinds

inputs_so : (b : Body) (inputs states : List ℕ) (i j i' j' size : ℕ) → SizeIs b inputs states i j size → SeenBy b i j i' j' → is_input b ≡ true → (i' ≡ i + 1) × (size ≡ get_or inputs i 0)
inputs_so (body.Input s) inputs states i j i' j' size h k is = (k.0, h)
inputs_so _ inputs states i j i' j' size h k is = absurd (cc)

inputs_not : (b : Body) (i j i' j' : ℕ) → SeenBy b i j i' j' → is_input b ≡ false → i' ≡ i
inputs_not (body.Input s) i j i' j' k is = absurd (cc)
inputs_not _ i j i' j' k is = k.0

states_so : (b : Body) (inputs states : List ℕ) (i j i' j' size : ℕ) → SizeIs b inputs states i j size → SeenBy b i j i' j' → is_state b ≡ true → (j' ≡ j + 1) × (size ≡ get_or states j 0)
states_so (body.State s) inputs states i j i' j' size h k is = (k.1, h)
states_so _ inputs states i j i' j' size h k is = absurd (cc)

states_not : (b : Body) (i j i' j' : ℕ) → SeenBy b i j i' j' → is_state b ≡ false → j' ≡ j
states_not (body.State s) i j i' j' k is = absurd (cc)
states_not _ i j i' j' k is = k.1

size_in : (b : Body) (inputs states : List ℕ) (i j size : ℕ) → SizeIs b inputs states i j size → is_input b ≡ true → size ≡ get_or inputs i 0
size_in (body.Input s) inputs states i j size h is = h
size_in _ inputs states i j size h is = absurd (cc)

size_st : (b : Body) (inputs states : List ℕ) (i j size : ℕ) → SizeIs b inputs states i j size → is_state b ≡ true → size ≡ get_or states j 0
size_st (body.State s) inputs states i j size h is = h
size_st _ inputs states i j size h is = absurd (cc)

-- ---- one line

pub split_begins : (t : Spots) (wide celled : List Item) (inputs states : List ℕ) → celled ≡ [] → IsSplitTo wide inputs states 0 0 0 t celled
split_begins t wide celled inputs states e = subst (λ (l : List Item). IsSplitTo wide inputs states 0 0 0 t l) (sym e)
    (record {
      split = record {
        wide_model = tt;
        stand = tt;
        input_cells = λ w u n g. tt;
        state_cells = λ w u n g. tt;
        leaves = refl;
        owners = tt;
        bads = record { nodes = refl; names = refl };
        constraints = record { nodes = refl; names = refl };
        outputs = record { nodes = refl; names = refl };
        forms = λ h. tt;
      };
      inputs_before = refl;
      states_before = refl;
    })

pub sizes_fit : (wide : List Item) (inputs states : List ℕ) (k i j : ℕ) (x : Item) (size : ℕ) → IsWideModel greatest_width wide → AreCells wide (input_ids wide) inputs → AreCells wide (state_ids wide) states
    → slice_get wide k ≡ Some x → i ≡ length (input_ids (take k wide)) → j ≡ length (state_ids (take k wide)) → SizeIs x.body inputs states i j size → HasSize (take k wide) x size
sizes_fit wide inputs states k i j x size m in_cells st_cells at in_i in_j own leaf = by (is_input x.body) (is_state x.body) refl refl leaf
  where
    is : wide ≡ take k wide ++ x ∷ drop (suc k) wide
    is = around wide k x at

    width : LeafWidth (take k wide) wide x
    width = leaf_width (take k wide) wide x (drop (suc k) wide) (refusal_at greatest_width (take k wide) (drop (suc k) wide) x (subst (IsWideModel greatest_width) is m)) is leaf

    fits : (n : ℕ) → size ≡ n → IsWordOfCells (bits_of wide x.id) n → IsWordOfCells (unwrap_or (width_of_body (take k wide) x.body) 0) size
    fits n e h =
        subst (λ (b : ℕ). IsWordOfCells b size) (ap (λ (o : Option ℕ). unwrap_or o 0) (width.all ∙ sym width.own)) (subst (IsWordOfCells (bits_of wide x.id)) (sym e) h)

    by : (b c : Bool) → is_input x.body ≡ b → is_state x.body ≡ c → (b || c) ≡ true → IsWordOfCells (unwrap_or (width_of_body (take k wide) x.body) 0) size
    by true c input state either =
        fits (get_or inputs (length (input_ids (take k wide))) 0) (size_in x.body inputs states i j size own input ∙ ap (λ (n : ℕ). get_or inputs n 0) in_i)
        (leaf_next is_input wide (take k wide) (drop (suc k) wide) x inputs is in_cells input).has
    by false true input state either =
        fits (get_or states (length (state_ids (take k wide))) 0) (size_st x.body inputs states i j size own state ∙ ap (λ (n : ℕ). get_or states n 0) in_j)
        (leaf_next is_state wide (take k wide) (drop (suc k) wide) x states is st_cells state).has
    by false false input state either = absurd (true≢false (sym either))

-- a line that comes next is accepted, and few lines are before it
pub accepted_at : (wide : List Item) (k : ℕ) (x : Item) → IsWideModel greatest_width wide → slice_get wide k ≡ Some x → wide_refusal greatest_width (take k wide) x ≡ None
accepted_at wide k x m at = refusal_at greatest_width (take k wide) (drop (suc k) wide) x (subst (IsWideModel greatest_width) (around wide k x at) m)

few_of : (kind : Item → Bool) (xs : List Item) → length (ids_of kind xs) ≤ length xs
few_of kind [] = omega arith
few_of kind (x ∷ xs) = let rest = few_of kind xs in by (kind x) rest
  where
    by : (b : Bool) → length (ids_of kind xs) ≤ length xs → length (map (λ (y : Item). y.id) (cond b (x ∷ filter kind xs) (filter kind xs))) ≤ suc (length xs)
    by true h = omega (arith, h)
    by false h = omega (arith, h)

pub few_before : (kind : Item → Bool) (wide : List Item) (k i : ℕ) (x : Item) → IsWideModel greatest_width wide → slice_get wide k ≡ Some x → i ≡ length (ids_of kind (take k wide)) → i < 1048576
few_before kind wide k i x m at e =
    let few : length (take k wide) < 1048576 = leb-false 1048576 (length (take k wide)) (tests_false greatest_width (take k wide) x (accepted_at wide k x m at)).0 in
    let most = few_of kind (take k wide) in
    omega (arith, few, most, e)

pub split_step : (wide : List Item) (inputs states : List ℕ) (k i j i' j' size : ℕ) (x : Item) (t t' : Spots) (celled celled' : List Item) → AreCells wide (input_ids wide) inputs → AreCells wide (state_ids wide) states
    → slice_get wide k ≡ Some x → IsSplitTo wide inputs states k i j t celled → SizeIs x.body inputs states i j size → SeenBy x.body i j i' j'
    → IsSplit (take k wide ++ x ∷ []) t' celled' (take i inputs ++ size_by is_input x size) (take j states ++ size_by is_state x size) → IsSplitTo wide inputs states (suc k) i' j' t' celled'
split_step wide inputs states k i j i' j' size x t t' celled celled' in_cells st_cells at h own seen on =
    let is = around wide k x at in
    let more = front_more wide k x at in
    let ins = counted is_input wide (take k wide) (drop (suc k) wide) x inputs i' size is in_cells
    (λ of. let so = inputs_so x.body inputs states i j i' j' size own seen of in (so.0 ∙ ap (λ (n : ℕ). n + 1) h.inputs_before, so.1 ∙ ap (λ (n : ℕ). get_or inputs n 0) h.inputs_before))
    (λ of. inputs_not x.body i j i' j' seen of ∙ h.inputs_before) in
    let sts = counted is_state wide (take k wide) (drop (suc k) wide) x states j' size is st_cells
    (λ of. let so = states_so x.body inputs states i j i' j' size own seen of in (so.0 ∙ ap (λ (n : ℕ). n + 1) h.states_before, so.1 ∙ ap (λ (n : ℕ). get_or states n 0) h.states_before))
    (λ of. states_not x.body i j i' j' seen of ∙ h.states_before) in
    record {
      split = subst (λ (l : List Item). IsSplit l t' celled' (take i' inputs) (take j' states)) (sym more)
          (subst (λ (l : List ℕ). IsSplit (take k wide ++ x ∷ []) t' celled' l (take j' states)) (ap (λ (n : ℕ). take n inputs ++ size_by is_input x size) h.inputs_before ∙ sym ins.cells)
          (subst (λ (l : List ℕ). IsSplit (take k wide ++ x ∷ []) t' celled' (take i inputs ++ size_by is_input x size) l) (ap (λ (n : ℕ). take n states ++ size_by is_state x size) h.states_before ∙ sym sts.cells) on));
      inputs_before = ins.count ∙ ap (λ (l : List Item). length (input_ids l)) (sym more);
      states_before = sts.count ∙ ap (λ (l : List Item). length (state_ids l)) (sym more);
    }

pub split_ends : (wide : List Item) (inputs states : List ℕ) (k i j : ℕ) (t : Spots) (celled : List Item) → AreCells wide (input_ids wide) inputs → AreCells wide (state_ids wide) states → k ≡ length wide → IsSplitTo wide inputs states k i j t celled
    → IsSplit wide t celled inputs states
split_ends wide inputs states k i j t celled in_cells st_cells e h =
    let whole : take k wide ≡ wide = ap (λ (n : ℕ). take n wide) e ∙ all_of_them wide in
    let ins : take i inputs ≡ inputs = ap (λ (n : ℕ). take n inputs) (h.inputs_before ∙ ap (λ (l : List Item). length (input_ids l)) whole) ∙ zip_whole (λ id n. IsWordOfCells (bits_of wide id) n) (input_ids wide) inputs in_cells in
    let sts : take j states ≡ states = ap (λ (n : ℕ). take n states) (h.states_before ∙ ap (λ (l : List Item). length (state_ids l)) whole) ∙ zip_whole (λ id n. IsWordOfCells (bits_of wide id) n) (state_ids wide) states st_cells in
    subst (λ (l : List Item). IsSplit l t celled inputs states) whole (subst (λ (l : List ℕ). IsSplit (take k wide) t celled l states) ins (subst (λ (l : List ℕ). IsSplit (take k wide) t celled (take i inputs) l) sts h.split))
