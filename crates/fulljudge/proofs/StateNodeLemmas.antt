-- Where the words of a state stand in a list in which each word has a leaf, and what they are in the first frame.
use Rattle.std.proofs.Common.{◌≡◌, ℕ, zero, suc, ◌+◌, ◌*◌, ◌^◌, ◌<◌, ◌≤◌, Bool, true, false, cond, List, [], ◌∷◌, ◌++◌, map, length, slice_get, Option, Some, None, is_some, unwrap_or, option_map, option_and_then, flat_map, refl, ap, subst, ◌∙◌, arith}
use Rattle.std.specs.List.{AllByRecursion, AllZip}
use Rattle.std.proofs.lemmas.List.{length-append, length-replicate}
use Rattle.std.proofs.lemmas.Option.{none-some, same_Some}
use Rattle.btor2.specs.declared.item.Item.{Item}
use Rattle.btor2.specs.declared.item.Body.{Body}
use Rattle.btor2.specs.Items.{is_input, is_state, init_value, init_word}
use Rattle.btor2.specs.Reachability.{model_shows}
use Rattle.btor2.specs.Trace.{Frame, bits_of, state_word, IsFrame, IsTrace, IsInput, IsState}
use Rattle.btor2.proofs.StateWords.{state_has_word}
use Rattle.wide.specs.WideModels.{greatest_width, IsWideModel}
use Rattle.full.specs.Lines.{FullLine, Sort, words, arrays, sort_size, is_form, lines_of, find_line, sort_of, width_of, full_ids}
use Rattle.full.specs.Agreement.{names_full_state}
use Rattle.full.specs.WrittenOut.{Places, read_by, StateIsWritten, IsWrittenOut}
use Rattle.full.proofs.DownLemmas.{state_below}
use Rattle.full.proofs.FullLookUps.{each_found}
use Rattle.full.proofs.PlaceLemmas.{placed}
use Rattle.full.proofs.PlainLaw.{wide_words_fit}
use Rattle.full.proofs.UpLemmas.{full_frame}
use Rattle.fit.specs.Fitting.{Layout, joined, ids_of}
use Rattle.fit.proofs.LawLemmas.{trace_above}
use Rattle.fit.proofs.ListLemmas.{AreDistinct}
use Rattle.celled.specs.Whole.{IsWhole, HasStateNodes}
use Rattle.witness.specs.Judgements.{FrameWords, given_words}
use Rattle.fulljudge.specs.Shapes.{Leaf, leaf_of, leaves_of, word_count, word_width, word_widths, first_index}
use Rattle.fulljudge.specs.Kept.{words_in}
use Rattle.fulljudge.specs.Told.{told}
use Rattle.fulljudge.specs.Cells.{HasWordsOf}
use Rattle.fulljudge.proofs.CelledLemmas.{by_part, open_given}
use Rattle.fulljudge.proofs.JudgedLemmas.{all_get, at_first}
use Rattle.fulljudge.proofs.RunLemmas.{states_named}

-- ---- lists

pub zip_get : {A B : Type 0} (P : A → B → Type 0) (xs : List A) (ys : List B) (i : ℕ) (x : A) → AllZip P xs ys → slice_get xs i ≡ Some x → (y : B) × (slice_get ys i ≡ Some y) × P x y
zip_get P [] [] i x h e = absurd (none-some x e)
zip_get P [] (y ∷ ys) i x h e = absurd h
zip_get P (a ∷ xs) [] i x h e = absurd h
zip_get P (a ∷ xs) (y ∷ ys) zero x h e = (y, refl, subst (λ (b : _). P b y) (same_Some a x e) h.0)
zip_get P (a ∷ xs) (y ∷ ys) (suc i) x h e = zip_get P xs ys i x h.1 e

pub get_front : {A : Type 0} (xs ys : List A) (i : ℕ) (x : A) → slice_get xs i ≡ Some x → slice_get (xs ++ ys) i ≡ Some x
get_front [] ys i x e = absurd (none-some x e)
get_front (a ∷ xs) ys zero x e = e
get_front (a ∷ xs) ys (suc i) x e = get_front xs ys i x e

pub get_behind : {A : Type 0} (xs ys : List A) (i : ℕ) → slice_get (xs ++ ys) (length xs + i) ≡ slice_get ys i
get_behind [] ys i = ap (slice_get ys) (omega arith)
get_behind (a ∷ xs) ys i =
    let next : length (a ∷ xs) + i ≡ suc (length xs + i) = omega arith in
    ap (slice_get (a ∷ (xs ++ ys))) next ∙ get_behind xs ys i

-- the id of a leaf stands where the leaf does
pub id_at : (full : List FullLine) (q : ℕ → ℕ) (xs : List FullLine) (i : ℕ) (l : Leaf) → slice_get (map (leaf_of full) xs) i ≡ Some l → slice_get (map q (map (λ (x : FullLine). x.id) xs)) i ≡ Some (q l.id)
id_at full q [] i l e = absurd (none-some l e)
id_at full q (x ∷ xs) zero l e = ap (λ (m : Leaf). Some (q m.id)) (same_Some (leaf_of full x) l e)
id_at full q (x ∷ xs) (suc i) l e = id_at full q xs i l e

pub get_map : {A B : Type 0} (f : A → B) (xs : List A) (i : ℕ) (x : A) → slice_get xs i ≡ Some x → slice_get (map f xs) i ≡ Some (f x)
get_map f [] i x e = absurd (none-some x e)
get_map f (a ∷ xs) zero x e = ap (λ (y : _). Some (f y)) (same_Some a x e)
get_map f (a ∷ xs) (suc i) x e = get_map f xs i x e

pub from_map : {A B : Type 0} (f : A → B) (xs : List A) (i : ℕ) (y : B) → slice_get (map f xs) i ≡ Some y → (x : A) × (slice_get xs i ≡ Some x) × (f x ≡ y)
from_map f [] i y e = absurd (none-some y e)
from_map f (a ∷ xs) zero y e = (a, refl, same_Some (f a) y e)
from_map f (a ∷ xs) (suc i) y e = from_map f xs i y e

-- the words of a value stand among those of all
pub index_within : (sorts : List Sort) (i : ℕ) (s : Sort) → slice_get sorts i ≡ Some s → first_index sorts i + word_count s ≤ words_in sorts
index_within [] i s e = absurd (none-some s e)
index_within (t ∷ sorts) zero s e =
    let count : length (word_widths t) ≡ word_count t = length-replicate (word_count t) (word_width t) in
    omega (arith, count, ap word_count (same_Some t s e), length-append (word_widths t) (flat_map word_widths sorts))
index_within (t ∷ sorts) (suc i) s e =
    let count : length (word_widths t) ≡ word_count t = length-replicate (word_count t) (word_width t) in
    omega (arith, count, index_within sorts i s e, length-append (word_widths t) (flat_map word_widths sorts))

-- ---- how many bits a leaf has

sort_bits_of : (o : Option Sort) → unwrap_or (option_map sort_size o) 0 ≡ word_count (unwrap_or o (words 0)) * word_width (unwrap_or o (words 0))
sort_bits_of None = refl
sort_bits_of (Some (words n)) = omega arith
sort_bits_of (Some (arrays k n)) = refl

HasBits : List FullLine → Leaf → Type 0
HasBits full l = width_of full l.id ≡ word_count l.sort * word_width l.sort

leaf_bits : (full : List FullLine) (kind : Body → Bool) (xs : List FullLine) → AllByRecursion (λ (x : FullLine). find_line full x.id ≡ Some x) xs → AllByRecursion (HasBits full) (map (leaf_of full) (lines_of kind xs))
unfolding HasBits
leaf_bits full kind [] h = tt
leaf_bits full kind (x ∷ xs) h = by (is_form kind x.says) (leaf_bits full kind xs h.1)
  where
    here : width_of full x.id ≡ word_count (leaf_of full x).sort * word_width (leaf_of full x).sort
    here = ap (λ (o : Option FullLine). unwrap_or (option_map sort_size (option_and_then (λ (y : FullLine). sort_of full y.says) o)) 0) h.0 ∙ sort_bits_of (sort_of full x.says)

    by : (b : Bool) → AllByRecursion (HasBits full) (map (leaf_of full) (lines_of kind xs)) → AllByRecursion (HasBits full) (map (leaf_of full) (cond b (x ∷ lines_of kind xs) (lines_of kind xs)))
    by true rest = (here, rest)
    by false rest = rest

bits_at : (full : List FullLine) (i : ℕ) (l : Leaf) → AllByRecursion (λ (x : FullLine). find_line full x.id ≡ Some x) full → slice_get (leaves_of is_state full) i ≡ Some l → width_of full l.id ≡ word_count l.sort * word_width l.sort
unfolding HasBits
bits_at full i l found there = all_get (HasBits full) (leaves_of is_state full) i l (leaf_bits full is_state full found) there

-- ---- a state

-- The nodes with the words of the state at a place, and what these are in a frame.
pub record StateAt (full : List FullLine) (p : Places) (wide : List Item) (layout : Layout) (celled : List Item) (leaf_nodes state_nodes : List ℕ) (f : FrameWords) (g : Frame) (i : ℕ) (l : Leaf) : Type 0 where
  pub place : StateIsWritten full p wide l.id
  pub leaf : ℕ
  pub node : ℕ
  pub is_leaf : slice_get leaf_nodes i ≡ Some leaf
  pub is_node : slice_get state_nodes i ≡ Some node
  pub leaf_whole : IsWhole wide layout celled (p.leaf l.id) leaf
  pub node_whole : IsWhole wide layout celled (p.node l.id) node
  pub own_below : joined celled layout g (p.leaf l.id) < 2 ^ (word_count l.sort * word_width l.sort)
  pub begun_below : read_by p (joined celled layout g) l.id < 2 ^ (word_count l.sort * word_width l.sort)
  -- where its leaf has no init line, that begins with what is told
  pub own_told : init_value wide (p.leaf l.id) ≡ None → joined celled layout g (p.leaf l.id) ≡ told f.states l.sort (first_index (map (λ (m : Leaf). m.sort) (leaves_of is_state full)) i) 0

module _ (full : List FullLine) (p : Places) (wide : List Item) (layout : Layout) (celled : List Item) (h : IsWrittenOut full p wide) (c : HasWordsOf full p wide layout celled) (model : IsWideModel greatest_width celled)
    (distinct_inputs : AreDistinct (ids_of (λ x. is_input x.body) celled)) (distinct_states : AreDistinct (ids_of (λ x. is_state x.body) celled)) (leaf_nodes state_nodes : List ℕ) (nodes : HasStateNodes full p wide layout celled leaf_nodes state_nodes)
    (f : FrameWords) (begin : Frame) (begins : (q : ℕ) → init_word celled q ≡ None → begin q ≡ by_part is_state celled f.states q) (state : IsState celled begin) (input : IsInput celled (given_words celled f)) (g : Frame) (frame : IsFrame celled begin (given_words celled f) g)
    (i : ℕ) (l : Leaf) (there : slice_get (leaves_of is_state full) i ≡ Some l) where
  names : names_full_state full l.id ≡ true
  names = all_get (λ (m : Leaf). names_full_state full m.id ≡ true) (leaves_of is_state full) i l (states_named full p wide h) there

  leaf_node : (k : ℕ) × (slice_get leaf_nodes i ≡ Some k) × IsWhole wide layout celled (p.leaf l.id) k
  leaf_node = zip_get (IsWhole wide layout celled) (map p.leaf (full_ids is_state full)) leaf_nodes i (p.leaf l.id) nodes.leaves (id_at full p.leaf (lines_of is_state full) i l there)

  state_node : (k : ℕ) × (slice_get state_nodes i ≡ Some k) × IsWhole wide layout celled (p.node l.id) k
  state_node = zip_get (IsWhole wide layout celled) (map p.node (full_ids is_state full)) state_nodes i (p.node l.id) nodes.nodes (id_at full p.node (lines_of is_state full) i l there)

  place : StateIsWritten full p wide l.id
  place = placed full p wide l.id h names

  above : IsState wide (joined celled layout begin) × AllByRecursion (IsInput wide) (joined celled layout (given_words celled f) ∷ []) × IsTrace wide (joined celled layout begin) (joined celled layout (given_words celled f) ∷ []) (joined celled layout g ∷ [])
      × (map (model_shows wide) (joined celled layout g ∷ []) ≡ map (model_shows celled) (g ∷ []))
  above = trace_above wide celled layout c.fits begin (given_words celled f ∷ []) (g ∷ []) state (input, tt) (frame, tt)

  size : width_of full l.id ≡ word_count l.sort * word_width l.sort
  size = bits_at full i l (each_found full h.agrees) there

  own_below : joined celled layout g (p.leaf l.id) < 2 ^ (word_count l.sort * word_width l.sort)
  own_below =
      let k : ℕ = leaf_node.0 in
      let whole = leaf_node.2 in
      let bits : bits_of celled k ≡ word_count l.sort * word_width l.sort = ap (λ (o : Option ℕ). unwrap_or o 0) whole.width ∙ place.bits ∙ size in
      let below : g k < 2 ^ bits_of celled k = wide_words_fit celled begin (given_words celled f) g model state input frame k (ap is_some whole.width) in
      subst (λ (x : ℕ). x < 2 ^ (word_count l.sort * word_width l.sort)) (whole.word begin (given_words celled f) g state input frame) (subst (λ (b : ℕ). g k < 2 ^ b) bits below)

  begun_below : read_by p (joined celled layout g) l.id < 2 ^ (word_count l.sort * word_width l.sort)
  begun_below =
      subst (λ (b : ℕ). read_by p (joined celled layout g) l.id < 2 ^ b) size
      (state_below full (read_by p (joined celled layout g)) l.id names (full_frame full p wide (joined celled layout begin) (joined celled layout (given_words celled f)) (joined celled layout g) h (record { state_fits = above.0; input_fits = above.1.0; frame = above.2.0 })))

  -- where its leaf has no init line, that begins with what is told
  own_told : init_value wide (p.leaf l.id) ≡ None → joined celled layout g (p.leaf l.id) ≡ told f.states l.sort (first_index (map (λ (m : Leaf). m.sort) (leaves_of is_state full)) i) 0
  own_told none =
      state_has_word wide (joined celled layout begin) (joined celled layout (given_words celled f)) (joined celled layout g) (p.leaf l.id) above.2.0 place.state
      ∙ at_first (λ i l. init_value wide (p.leaf l.id) ≡ None → state_word wide (joined celled layout begin) (joined celled layout (given_words celled f)) (p.leaf l.id) ≡ told f.states l.sort i 0) i (leaves_of is_state full) l
      (open_given full p wide layout celled h c model distinct_inputs distinct_states f begin begins) there none

  pub state_at : StateAt full p wide layout celled leaf_nodes state_nodes f g i l
  state_at = record {
    place = place;
    leaf = leaf_node.0;
    node = state_node.0;
    is_leaf = leaf_node.1;
    is_node = state_node.1;
    leaf_whole = leaf_node.2;
    node_whole = state_node.2;
    own_below = own_below;
    begun_below = begun_below;
    own_told = own_told;
  }
