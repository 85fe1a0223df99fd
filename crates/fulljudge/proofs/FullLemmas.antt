-- What is judged over a model of the whole language by what is judged over a list in which each word of a value has a leaf.
use Rattle.std.proofs.Common.{◌≡◌, ℕ, zero, suc, ◌+◌, ◌^◌, ◌<◌, ◌==◌, Bool, true, false, cond, not, nat_eq, eqb-true, List, [], ◌∷◌, ◌++◌, map, flat_map, length, slice_get, Option, Some, None, is_some, unwrap_or, option_and_then, refl, sym, ap, ap₂, subst, ◌∙◌, inl, inr, arith}
use Rattle.std.specs.List.{AllByRecursion, position_from}
use Rattle.std.proofs.lemmas.Bool.{false_from_ne_true}
use Rattle.std.proofs.lemmas.List.{length-append, length-map, length-replicate}
use Rattle.std.proofs.lemmas.Option.{none-some, same_Some}
use Rattle.base.specs.Shown.{Shown}
use Rattle.btor2.specs.declared.item.Item.{Item}
use Rattle.btor2.specs.declared.item.Body.{Body}
use Rattle.btor2.specs.declared.item.Body.TheVariants as body
use Rattle.btor2.specs.Items.{is_input, is_state, is_bad, names_state, constant_of, init_value, init_word}
use Rattle.btor2.specs.Lists.{of_kind}
use Rattle.btor2.specs.Trace.{Frame, bits_of, IsFrame, next_state, IsTrace, StateFits, IsInput, IsState, IsInitial}
use Rattle.btor2.specs.Reachability.{nodes_of, model_shows}
use Rattle.btor2.proofs.IdLemmas.{state_item}
use Rattle.wide.specs.WideModels.{greatest_width, IsWideModel}
use Rattle.full.specs.Lines.{FullLine, Sort, Operand, init_of}
use Rattle.full.specs.Agreement.{names_full_state}
use Rattle.full.specs.WrittenOut.{Places, read_by, InitIsWritten, IsWrittenOut}
use Rattle.full.proofs.FullLookUps.{init_said}
use Rattle.full.proofs.ListLemmas.{all_at}
use Rattle.full.proofs.PlaceLemmas.{placed}
use Rattle.full.proofs.WideLemmas.{wide_frame_exists}
use Rattle.fit.specs.Fitting.{Layout, joined, ids_of, init_words}
use Rattle.fit.proofs.LawLemmas.{init_says, trace_above, wide_initial}
use Rattle.fit.proofs.ModelLemmas.{init_words_fit}
use Rattle.fit.proofs.ListLemmas.{all_with, of_ids, AreDistinct}
use Rattle.witness.specs.declared.judgement.Judgement.{Judgement}
use Rattle.witness.specs.declared.judgement.Judgement.TheVariants as judgement
use Rattle.witness.specs.Judgements.{FrameWords, Words, given, given_to, index_of, initial_part, initial_words, given_frames, differs, first_different, Violation, violation_from, unreached_from, first_of, verdict, JudgesWords}
use Rattle.witness.proofs.GivenWordLemmas.{named_state}
use Rattle.rejoin.proofs.PlaceLemmas.{place_map}
use Rattle.fulljudge.specs.Shapes.{Leaf, leaves_of, word_count, word_width, word_widths, first_index, value_of_word}
use Rattle.fulljudge.specs.Told.{told, ByIndex, DiffersAt, FirstDiffers}
use Rattle.fulljudge.specs.Judgements.{judged_by, IsJudged}
use Rattle.fulljudge.specs.Rises.{IsJudgedWithRises}
use Rattle.fulljudge.specs.Written.{AreGiven, ConstantTold, ConstantsTold, IsCompared}
use Rattle.fulljudge.specs.Cells.{HasWordsOf, TellsWords}
use Rattle.fulljudge.proofs.RunLemmas.{by_index, states_named}
use Rattle.fulljudge.proofs.CellLemmas.{given_at}
use Rattle.fulljudge.proofs.CelledLemmas.{IsOfKind, by_part, state_pieces, are_given, begins_with_given}
use Rattle.fulljudge.proofs.ToldLemmas.{WordsFit, told_other}
use Rattle.fulljudge.proofs.FirstLemmas.{StandAt, leaves_stand, BeginsSo, inits_hold, constant_told, own_of_pieces, init_fits}
use Rattle.fulljudge.proofs.DifferLemmas.{get_at, Located, located, absence, WordDiffers, word_differs}
use Rattle.fulljudge.proofs.JudgedLemmas.{at_first, all_get, node_is_leaf, constant_first, rises_of, differs_rising, rising_by_trace, judged_to_differ}

-- ---- traces

pub trace_exists : (items : List Item) (state : Frame) (inputs : List Frame) → IsWideModel greatest_width items → (fs : List Frame) × IsTrace items state inputs fs
trace_exists items state [] w = ([], tt)
trace_exists items state (input ∷ inputs) w =
    let first = wide_frame_exists greatest_width items state input w in
    let rest = trace_exists items (next_state items first.0) inputs w in
    (first.0 ∷ rest.0, (first.1, rest.1))

-- ---- nothing that is looked for is found

none_found : (test : ℕ → Bool) (n : ℕ) (xs : List ℕ) → position_from test n xs ≡ None → AllByRecursion (λ x. test x ≡ false) xs
none_found test n [] e = tt
none_found test n (x ∷ xs) e = by (test x) refl e (none_found test (n + 1) xs)
  where
    by : (b : Bool) → test x ≡ b → cond b (Some n) (position_from test (n + 1) xs) ≡ None → (position_from test (n + 1) xs ≡ None → AllByRecursion (λ x. test x ≡ false) xs) → AllByRecursion (λ x. test x ≡ false) (x ∷ xs)
    by true t e more = absurd (none-some n (sym e))
    by false t e more = (t, more e)

same_word : (c x : ℕ) → not (nat_eq c x) ≡ false → c ≡ x
same_word c x e = by (nat_eq c x) refl e
  where
    by : (b : Bool) → nat_eq c x ≡ b → not b ≡ false → c ≡ x
    by true t e = eqb-true c x t
    by false t e = absurd (cc e)

-- where no initial word differs, each state begins so
pub begins_so : (celled : List Item) (w : Words) (model : IsWideModel greatest_width celled) (distinct : AreDistinct (ids_of (λ x. is_state x.body) celled)) → first_different celled (initial_words celled w) ≡ None → BeginsSo celled model distinct (initial_words celled w)
begins_so celled w model distinct none = λ q k names word.
    let found = state_item celled q names in
    let x : Item = found.0 in
    let inside = found.1 in
    let tests = none_found (λ r. differs (init_word celled r) (initial_words celled w r)) 0 (ids_of (λ y. is_state y.body) celled)
    (sym (place_map (λ r. differs (init_word celled r) (initial_words celled w r)) (λ (y : Item). y.id) 0 (of_kind is_state celled)) ∙ none) in
    let all = subst (AllByRecursion (λ (y : Item). is_state y.body ≡ true → differs (init_word celled y.id) (initial_words celled w y.id) ≡ false)) inside.splits
    (of_ids (λ r. differs (init_word celled r) (initial_words celled w r) ≡ false) (λ (y : Item). is_state y.body) celled tests) in
    let one = all_at (λ (y : Item). is_state y.body ≡ true → differs (init_word celled y.id) (initial_words celled w y.id) ≡ false) inside.before inside.after x all found.3 in
    let here : differs (init_word celled q) (initial_words celled w q) ≡ false = ap (λ (r : ℕ). differs (init_word celled r) (initial_words celled w r)) found.2 ∙ one in
    same_word k (initial_words celled w q) (ap (λ (o : Option ℕ). differs o (initial_words celled w q)) (sym word) ∙ here)

-- two facts of each leaf
both_index : (P Q : ℕ → Leaf → Type 0) (i : ℕ) (leaves : List Leaf) → ByIndex P i leaves → ByIndex Q i leaves → ByIndex (λ i l. P i l × Q i l) i leaves
both_index P Q i [] h k = tt
both_index P Q i (l ∷ leaves) h k = ((h.0, k.0), both_index P Q (i + word_count l.sort) leaves h.1 k.1)

piece_counts : (width : ℕ → ℕ) (pieces : Leaf → List ℕ) (leaves : List Leaf) → AllByRecursion (λ (l : Leaf). map width (pieces l) ≡ word_widths l.sort) leaves → AllByRecursion (λ (l : Leaf). length (pieces l) ≡ word_count l.sort) leaves
piece_counts width pieces leaves h =
    all_with (λ (l : Leaf). map width (pieces l) ≡ word_widths l.sort) (λ (l : Leaf). length (pieces l) ≡ word_count l.sort) leaves
    (λ l e. sym (length-map (pieces l) width) ∙ ap length e ∙ length-replicate (word_count l.sort) (word_width l.sort)) h

total_count : (pieces : Leaf → List ℕ) (leaves : List Leaf) → AllByRecursion (λ (l : Leaf). length (pieces l) ≡ word_count l.sort) leaves → length (flat_map pieces leaves) ≡ length (flat_map (λ (l : Leaf). word_widths l.sort) leaves)
total_count pieces [] h = refl
total_count pieces (l ∷ leaves) h =
    length-append (pieces l) (flat_map pieces leaves) ∙ ap₂ (λ (a b : ℕ). a + b) (h.0 ∙ sym (length-replicate (word_count l.sort) (word_width l.sort))) (total_count pieces leaves h.1)
    ∙ sym (length-append (word_widths l.sort) (flat_map (λ (m : Leaf). word_widths m.sort) leaves))

all_at_get : (P : ℕ → Type 0) (ps : List ℕ) (c q : ℕ) → AllByRecursion P ps → slice_get ps c ≡ Some q → P q
all_at_get P [] c q h e = absurd (none-some q e)
all_at_get P (p ∷ ps) zero q h e = subst P (same_Some p q e) h.0
all_at_get P (p ∷ ps) (suc c) q h e = all_at_get P ps c q h.1 e

in_front : (xs ys : List ℕ) (k q : ℕ) → k < length xs → slice_get (xs ++ ys) k ≡ Some q → slice_get xs k ≡ Some q
in_front [] ys k q h e = absurd (omega (arith, h))
in_front (x ∷ xs) ys zero q h e = e
in_front (x ∷ xs) ys (suc k) q h e = in_front xs ys k q (omega (arith, h)) e

module _ (full : List FullLine) (p : Places) (wide : List Item) (layout : Layout) (celled : List Item) (h : IsWrittenOut full p wide) (c : HasWordsOf full p wide layout celled) (model : IsWideModel greatest_width celled)
    (distinct_inputs : AreDistinct (ids_of (λ x. is_input x.body) celled)) (distinct_states : AreDistinct (ids_of (λ x. is_state x.body) celled)) where
  abbrev leaves : List Leaf
  leaves = leaves_of is_state full

  abbrev sorts : List Sort
  sorts = map (λ (l : Leaf). l.sort) leaves

  abbrev pieces : Leaf → List ℕ
  pieces l = layout (p.leaf l.id)

  abbrev states : List ℕ
  states = ids_of (λ x. is_state x.body) celled

  leaves_at : ByIndex (λ i l. StandAt states (pieces l) i × (map (bits_of celled) (pieces l) ≡ word_widths l.sort)) 0 leaves
  leaves_at = leaves_stand (bits_of celled) pieces states [] c.more leaves 0 (sym c.states) refl c.state_words

  pieces_named : AllByRecursion (λ (l : Leaf). AllByRecursion (λ q. names_state celled q ≡ true) (pieces l)) leaves
  pieces_named =
      all_with (λ (l : Leaf). AllByRecursion (IsOfKind is_state celled) (pieces l)) (λ (l : Leaf). AllByRecursion (λ q. names_state celled q ≡ true) (pieces l)) leaves
      (λ l kinds. all_with (IsOfKind is_state celled) (λ q. names_state celled q ≡ true) (pieces l) (λ q is. named_state celled q is.0 is.1 is.2) kinds)
      (state_pieces full p wide layout celled h c model distinct_inputs distinct_states)

  pub constants_of : (w : Words) → BeginsSo celled model distinct_states (initial_words celled w) → ByIndex (λ i l. WordsFit (initial_part w.frames) l.sort i) 0 leaves → ByIndex (ConstantTold p wide (initial_part w.frames)) 0 leaves
  constants_of w so fit =
      by_index (λ (l : Leaf). AllByRecursion (λ q. names_state celled q ≡ true) (pieces l)) (λ i l. (StandAt states (pieces l) i × (map (bits_of celled) (pieces l) ≡ word_widths l.sort)) × WordsFit (initial_part w.frames) l.sort i)
      (ConstantTold p wide (initial_part w.frames)) 0 leaves
      (λ i l names both. constant_told celled model distinct_states wide layout c.fits p w i l so both.0.0 both.0.1 names both.1) pieces_named
      (both_index (λ i l. StandAt states (pieces l) i × (map (bits_of celled) (pieces l) ≡ word_widths l.sort)) (λ i l. WordsFit (initial_part w.frames) l.sort i) 0 leaves leaves_at fit)

  constants_told : (ws : List FrameWords) → ByIndex (ConstantTold p wide (initial_part ws)) 0 leaves → ConstantsTold full p wide ws
  constants_told [] told = tt
  constants_told (w ∷ ws) told = told

  -- ---- a word that differs is one of a state that is told otherwise

  pub given_here : (w : Words) (k : ℕ) (d : WordDiffers celled w k) → given (initial_part w.frames) k ≡ Some d.told
  given_here w k d =
      ap (given (initial_part w.frames)) (sym d.found.at) ∙ sym (given_at is_state celled (initial_part w.frames) d.found.before d.found.after d.found.one distinct_states d.found.is) ∙ d.given

  module _ (w : Words) (k : ℕ) (d : WordDiffers celled w k) (fit_words : ByIndex (λ i l. WordsFit (initial_part w.frames) l.sort i) 0 leaves) (of_state : k < length (flat_map (λ (l : Leaf). word_widths l.sort) leaves)) where
    abbrev list : List (ℕ × ℕ)
    list = initial_part w.frames

    abbrev word : ℕ
    word = d.found.one

    counts : AllByRecursion (λ (l : Leaf). length (pieces l) ≡ word_count l.sort) leaves
    counts = piece_counts (bits_of celled) pieces leaves c.state_words

    here : slice_get (flat_map pieces leaves) k ≡ Some word
    here =
        in_front (flat_map pieces leaves) c.more k word (subst (λ (n : ℕ). k < n) (sym (total_count pieces leaves counts)) of_state)
        (ap (λ (xs : List ℕ). slice_get xs k) (c.states ∙ d.found.is) ∙ ap (slice_get (d.found.before ++ word ∷ d.found.after)) (sym d.found.at) ∙ get_at d.found.before d.found.after word)

    where_is : Located pieces leaves k word
    where_is = located pieces leaves k word counts here

    abbrev leaf : Leaf
    leaf = where_is.leaf

    abbrev a : ℕ
    a = p.leaf leaf.id

    abbrev index : ℕ
    index = first_index sorts where_is.place

    names : names_full_state full leaf.id ≡ true
    names = all_get (λ (l : Leaf). names_full_state full l.id ≡ true) leaves where_is.place leaf (states_named full p wide h) where_is.there

    stand : StandAt states (layout a) index × (map (bits_of celled) (layout a) ≡ word_widths leaf.sort)
    stand = at_first (λ i l. StandAt states (pieces l) i × (map (bits_of celled) (pieces l) ≡ word_widths l.sort)) where_is.place leaves leaf leaves_at where_is.there

    its_init : (v : ℕ) × (init_value wide a ≡ Some v)
    its_init = by (init_value wide a) refl
      where
        by : (o : Option ℕ) → init_value wide a ≡ o → (v : ℕ) × (init_value wide a ≡ Some v)
        by (Some v) e = (v, e)
        by None e =
            let none = all_at_get (λ q. init_value celled q ≡ None) (layout a) where_is.word word (absence wide celled layout c.fits model a (placed full p wide leaf.id h names).state e) where_is.inside in
            absurd (none-some d.constant (sym (ap (option_and_then (constant_of celled)) none) ∙ d.begins))

    -- its node is its leaf
    pub own_node : (l : Leaf) → slice_get leaves (value_of_word sorts k) ≡ Some l → p.node l.id ≡ p.leaf l.id
    own_node l there =
        subst (λ (m : Leaf). p.node m.id ≡ p.leaf m.id) (same_Some leaf l (sym where_is.there ∙ ap (slice_get leaves) (sym where_is.owner) ∙ there))
        (node_is_leaf full p wide h leaf.id its_init.0 names its_init.1)

    abbrev constant : ℕ
    constant = joined celled layout (init_words celled) a

    begins : init_word wide a ≡ Some constant
    begins = ap (option_and_then (constant_of wide)) its_init.1 ∙ (init_says wide celled layout wide a its_init.0 c.fits.inits its_init.1).1

    is_told_otherwise : told list leaf.sort index constant ≡ constant → ⊥
    is_told_otherwise same =
        told_other list leaf.sort index constant where_is.word d.told (at_first (λ i l. WordsFit list l.sort i) where_is.place leaves leaf fit_words where_is.there) where_is.within (ap (given list) (sym where_is.is) ∙ given_here w k d)
        (λ own. d.other (own ∙ own_of_pieces (bits_of celled) (init_words celled) leaf.sort where_is.word word (layout a) stand.1 (init_fits celled model distinct_states (layout a)) where_is.inside ∙ ap (λ (o : Option ℕ). unwrap_or o 0) d.begins)) same

    differs_in : (state input g : Frame) → IsInitial wide state → IsFrame wide state input g → DiffersAt full list (read_by p g) (value_of_word sorts k)
    differs_in state input g initial frame = subst (DiffersAt full list (read_by p g)) (sym where_is.owner) (by (init_of full leaf.id) refl)
      where
        differs : (o : Operand) → init_of full leaf.id ≡ Some o → g (p.node leaf.id) ≡ constant → DiffersAt full list (read_by p g) where_is.place
        differs o e first =
            record {
              leaf = leaf;
              there = where_is.there;
              has_init = ap is_some e;
              other = false_from_ne_true (told list leaf.sort index (g (p.node leaf.id)) == g (p.node leaf.id))
                  (λ yes. is_told_otherwise (ap (told list leaf.sort index) (sym first) ∙ eqb-true (told list leaf.sort index (g (p.node leaf.id))) (g (p.node leaf.id)) yes ∙ first));
            }

        written : (o : Operand) → init_of full leaf.id ≡ Some o → InitIsWritten full p wide leaf.id o → DiffersAt full list (read_by p g) where_is.place
        written o e (inl same) = differs o e (constant_first full p wide h state input g leaf.id constant initial frame names same.same begins)
        written o e (inr choice) = absurd (none-some its_init.0 (sym choice.begins_open ∙ its_init.1))

        by : (o : Option Operand) → init_of full leaf.id ≡ o → DiffersAt full list (read_by p g) where_is.place
        by (Some o) e = written o e (init_said (InitIsWritten full p wide) full leaf.id o h.inits e)
        by None e = absurd (none-some its_init.0 (sym ((placed full p wide leaf.id h names).no_init e).1 ∙ its_init.1))

  -- ---- the first frame of a trace

  none_given : (o : Option ℕ) → option_and_then (given []) o ≡ None
  none_given None = refl
  none_given (Some i) = refl

  pub first_differs : (w : Words) (k : ℕ) (d : WordDiffers celled w k) (fit : ByIndex (λ i l. WordsFit (initial_part w.frames) l.sort i) 0 leaves) (of_state : k < length (flat_map (λ (l : Leaf). word_widths l.sort) leaves)) (ws : List FrameWords) (state : Frame) (inputs gs : List Frame) → w.frames ≡ ws → IsInitial wide state → IsTrace wide state inputs gs
      → AreGiven full p wide state ws inputs → FirstDiffers full ws (map (read_by p) gs) (value_of_word sorts k)
  first_differs w k d fit of_state [] state inputs gs e initial trace given = absurd (none-some d.told (sym (ap (λ (l : List FrameWords). given_to is_state celled (initial_part l) d.found.one) e ∙ none_given (index_of is_state celled d.found.one)) ∙ d.given))
  first_differs w k d fit of_state (f ∷ fs) state [] gs e initial trace given = absurd given
  first_differs w k d fit of_state (f ∷ fs) state (i ∷ inputs) [] e initial trace given = absurd trace
  first_differs w k d fit of_state (f ∷ fs) state (i ∷ inputs) (g ∷ gs) e initial trace given =
      subst (λ (l : List FrameWords). DiffersAt full (initial_part l) (read_by p g) (value_of_word sorts k)) e (differs_in w k d fit of_state state i g initial trace.0)

  -- ---- the judgement

  pub bads_count : length (nodes_of is_bad celled) ≡ length (nodes_of is_bad wide)
  bads_count = sym (length-map (nodes_of is_bad celled) (λ q. q ∷ [])) ∙ sym (ap length c.fits.bads) ∙ length-map (nodes_of is_bad wide) layout

  pub stays_judged : (breach : Option Violation) (unreached : Option ℕ) (n : ℕ) → judged_by sorts None (first_of None breach unreached n) ≡ first_of None breach unreached n
  stays_judged (Some v) unreached n = refl
  stays_judged None (Some claim) n = refl
  stays_judged None None n = refl

  is_to_differ : (i : ℕ) (breach : Option Violation) (unreached : Option ℕ) (n : ℕ) → judged_by sorts (Some i) (first_of None breach unreached n) ≡ judgement.InitDiffers i
  is_to_differ i (Some v) unreached n = refl
  is_to_differ i None (Some claim) n = refl
  is_to_differ i None None n = refl

  -- words with those of the init lines put at the states that have one
  abbrev pub agreeing : Words → Frame
  agreeing w q = unwrap_or (init_word celled q) (initial_words celled w q)

  agreeing_fits : (w : Words) (id : ℕ) (b : Body) → StateFits celled (initial_words celled w) id b → StateFits celled (agreeing w) id b
  agreeing_fits w id (body.State s) fits = λ carried. by (init_word celled id) refl (fits carried)
    where
      by : (o : Option ℕ) → init_word celled id ≡ o → initial_words celled w id < 2 ^ bits_of celled id → unwrap_or o (initial_words celled w id) < 2 ^ bits_of celled id
      by None e below = below
      by (Some x) e below = subst (λ (o : Option ℕ). unwrap_or o 0 < 2 ^ bits_of celled id) e (init_words_fit celled id model)
  agreeing_fits w id _ fits = tt

  pub agreeing_initial : (w : Words) → IsState celled (initial_words celled w) → IsInitial celled (agreeing w)
  agreeing_initial w fits =
      record {
        fits = all_with (λ (x : Item). StateFits celled (initial_words celled w) x.id x.body) (λ (x : Item). StateFits celled (agreeing w) x.id x.body) celled (λ x. agreeing_fits w x.id x.body) fits;
        inits = inits_hold celled model distinct_states (agreeing w) (λ q k names e. sym (ap (λ (o : Option ℕ). unwrap_or o (initial_words celled w q)) e));
      }

  pub given_by : (w : Words) (begin : Frame) → ((q : ℕ) → init_word celled q ≡ None → begin q ≡ by_part is_state celled (initial_part w.frames) q)
      → AreGiven full p wide (joined celled layout begin) w.frames (map (joined celled layout) (given_frames celled w))
  given_by w begin begins = are_given full p wide layout celled h c model distinct_inputs distinct_states begin w.frames begins

  judged_otherwise : (w : Words) (fit : TellsWords full celled w) (k : ℕ) → first_different celled (initial_words celled w) ≡ Some k → IsJudged full w (judgement.InitDiffers (value_of_word sorts k))
  judged_otherwise w fit k e =
      let d = word_differs celled w k e in
      let begin : Frame = agreeing w in
      let trace = trace_exists celled begin (given_frames celled w) model in
      let initial = agreeing_initial w fit.state in
      let up = trace_above wide celled layout c.fits begin (given_frames celled w) trace.0 initial.fits fit.inputs trace.1 in
      let above = wide_initial wide celled layout c.fits begin initial in
      let given = given_by w begin (λ q none. ap (λ (o : Option ℕ). unwrap_or o (initial_words celled w q)) none ∙ begins_with_given celled w q none) in
      judged_to_differ full p wide h w (joined celled layout begin) (map (joined celled layout) (given_frames celled w)) (map (joined celled layout) trace.0) (value_of_word sorts k) above up.1 up.2 given
      (first_differs w k d fit.words (fit.few k d.told (given_here w k d)) w.frames (joined celled layout begin) (map (joined celled layout) (given_frames celled w)) (map (joined celled layout) trace.0) refl above up.2 given)

  -- what is judged over such a list, and the first rises in a trace of it, make what is judged over the model and those in a run
  pub judged : (w : Words) (fit : TellsWords full celled w) (j : Judgement) (d : Option ℕ) (firsts : List (Option ℕ)) → JudgesWords celled w j
      → ((gs : List Frame) → IsTrace celled (initial_words celled w) (given_frames celled w) gs → IsCompared full p wide w.frames (map (read_by p) (map (joined celled layout) gs)) d)
      → firsts ≡ rises_of w.claims (map (model_shows celled) (trace_exists celled (initial_words celled w) (given_frames celled w) model).0) (length (nodes_of is_bad celled)) → IsJudgedWithRises full w (judged_by sorts d j) firsts
  judged w fit j d firsts judges compared are = by (first_different celled (initial_words celled w)) refl
    where
      begin : Frame
      begin = initial_words celled w

      trace : (gs : List Frame) × IsTrace celled begin (given_frames celled w) gs
      trace = trace_exists celled begin (given_frames celled w) model

      shown : (o : Option ℕ) → first_different celled begin ≡ o → j ≡ verdict o w.claims (length (nodes_of is_bad celled)) (map (model_shows celled) trace.0)
      shown o e = judges trace.0 trace.1 ∙ ap (λ (o : Option ℕ). verdict o w.claims (length (nodes_of is_bad celled)) (map (model_shows celled) trace.0)) e

      agreed : first_different celled begin ≡ None → (d : Option ℕ) → IsCompared full p wide w.frames (map (read_by p) (map (joined celled layout) trace.0)) d → IsJudgedWithRises full w (judged_by sorts d j) firsts
      agreed e d compared =
          let so = begins_so celled w model distinct_states e in
          let up = trace_above wide celled layout c.fits begin (given_frames celled w) trace.0 fit.state fit.inputs trace.1 in
          let above = wide_initial wide celled layout c.fits begin (record { fits = fit.state; inits = inits_hold celled model distinct_states begin so }) in
          let given = given_by w begin (begins_with_given celled w) in
          let same : j ≡ verdict None w.claims (length (nodes_of is_bad wide)) (map (model_shows wide) (map (joined celled layout) trace.0)) =
          shown None e ∙ ap₂ (λ (n : ℕ) (l : List Shown). verdict None w.claims n l) bads_count (sym up.3) in
          let rises : firsts ≡ rises_of w.claims (map (model_shows wide) (map (joined celled layout) trace.0)) (length (nodes_of is_bad wide)) = are ∙ ap₂ (λ (n : ℕ) (l : List Shown). rises_of w.claims l n) bads_count (sym up.3) in
          by d compared same rises (constants_told w.frames (constants_of w so fit.words)) above up.1 up.2 given
        where
          state : Frame
          state = joined celled layout begin

          inputs : List Frame
          inputs = map (joined celled layout) (given_frames celled w)

          gs : List Frame
          gs = map (joined celled layout) trace.0

          by : (d : Option ℕ) → IsCompared full p wide w.frames (map (read_by p) gs) d → j ≡ verdict None w.claims (length (nodes_of is_bad wide)) (map (model_shows wide) gs) → firsts ≡ rises_of w.claims (map (model_shows wide) gs) (length (nodes_of is_bad wide))
              → ConstantsTold full p wide w.frames → IsInitial wide state → AllByRecursion (IsInput wide) inputs → IsTrace wide state inputs gs → AreGiven full p wide state w.frames inputs → IsJudgedWithRises full w (judged_by sorts d j) firsts
          by None compared same rises constants above fits trace given =
              subst (λ (r : Judgement). IsJudgedWithRises full w (judged_by sorts None r) firsts) (sym same)
              (subst (λ (r : Judgement). IsJudgedWithRises full w r firsts) (sym (stays_judged (violation_from 0 (map (model_shows wide) gs)) (unreached_from w.claims (map (model_shows wide) gs) 0 (length (nodes_of is_bad wide))) (length (map (model_shows wide) gs))))
              (rising_by_trace full p wide h w state inputs gs firsts above fits trace given constants compared rises))
          by (Some i) compared same rises constants above fits trace given =
              subst (λ (r : Judgement). IsJudgedWithRises full w (judged_by sorts (Some i) r) firsts) (sym same)
              (subst (λ (r : Judgement). IsJudgedWithRises full w r firsts) (sym (is_to_differ i (violation_from 0 (map (model_shows wide) gs)) (unreached_from w.claims (map (model_shows wide) gs) 0 (length (nodes_of is_bad wide))) (length (map (model_shows wide) gs))))
              (differs_rising full w i firsts (judged_to_differ full p wide h w state inputs gs i above fits trace given compared)))

      by : (o : Option ℕ) → first_different celled begin ≡ o → IsJudgedWithRises full w (judged_by sorts d j) firsts
      by None e = agreed e d (compared trace.0 trace.1)
      by (Some k) e = subst (λ (r : Judgement). IsJudgedWithRises full w (judged_by sorts d r) firsts) (sym (shown (Some k) e)) (differs_rising full w (value_of_word sorts k) firsts (judged_otherwise w fit k e))
