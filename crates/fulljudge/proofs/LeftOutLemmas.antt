-- What is judged of a witness is judged of one that says less: nothing of the first words of states that have another node than their leaves.
use Rattle.std.proofs.Common.{◌≡◌, ℕ, zero, suc, ◌+◌, ◌*◌, ◌^◌, ◌<◌, ◌==◌, Bool, true, false, not, List, [], ◌∷◌, ◌++◌, map, flat_map, length, slice_get, Option, Some, None, IfSome, unwrap_or, eqb-true, eq-eqb, inl, inr, refl, sym, ap, ap₂, subst, ◌∙◌, arith}
use Rattle.std.specs.List.{AllByRecursion, AllZip}
use Rattle.std.proofs.lemmas.Bool.{true≢false}
use Rattle.std.proofs.lemmas.Option.{none-some, same_Some}
use Rattle.base.specs.Operator.{concat_value}
use Rattle.base.specs.Shown.{Shown}
use Rattle.btor2.specs.declared.item.Item.{Item}
use Rattle.btor2.specs.Items.{is_input, is_state, is_bad, constant_of, init_value, init_word}
use Rattle.btor2.specs.Reachability.{nodes_of, model_shows}
use Rattle.btor2.specs.Trace.{Frame, bits_of, IsFrame, IsTrace, IsInput, IsState}
use Rattle.btor2.proofs.AppendLemmas.{then_parts}
use Rattle.wide.specs.WideModels.{greatest_width, IsWideModel}
use Rattle.full.specs.Cells.{read_value}
use Rattle.full.specs.Lines.{FullLine, Sort, words, arrays, Operand, lines_of, init_of}
use Rattle.full.specs.Agreement.{names_full_state}
use Rattle.full.specs.WrittenOut.{Places, read_by, InitIsWritten, IsWrittenOut}
use Rattle.full.proofs.FullLookUps.{init_said}
use Rattle.full.proofs.PlaceLemmas.{placed}
use Rattle.fit.specs.Fitting.{Layout, joined, ids_of}
use Rattle.fit.proofs.LawLemmas.{trace_above, wide_initial}
use Rattle.fit.proofs.ListLemmas.{AreDistinct}
use Rattle.celled.specs.Whole.{HasStateNodes}
use Rattle.witness.specs.declared.judgement.Judgement.{Judgement}
use Rattle.witness.specs.declared.judgement.Judgement.TheVariants as judgement
use Rattle.witness.specs.Texts.{Parts, Witness, AreFrames, IsWitness, shape_of, widths_of}
use Rattle.witness.specs.Judgements.{FrameWords, Words, frame_words, words_of, given, initial_part, initial_words, given_words, given_frames, first_different, violation_from, unreached_from, verdict, JudgesWords}
use Rattle.fulljudge.specs.Shapes.{Leaf, leaves_of, full_shape, word_count, word_width, word_widths, first_index, value_of_word, word_shape}
use Rattle.fulljudge.specs.Told.{told, told_cells, ByIndex, DiffersAt, FirstDiffers}
use Rattle.fulljudge.specs.Kept.{words_in}
use Rattle.fulljudge.specs.Cells.{HasWordsOf}
use Rattle.fulljudge.specs.Compared.{has_other_node}
use Rattle.fulljudge.specs.Judgements.{judged_by, IsJudged}
use Rattle.fulljudge.specs.Written.{FirstGiven, InputGiven, IsFirstGiven, IsLaterGiven, AreGiven, ConstantTold, OtherTold, ConstantsTold, OthersTold}
use Rattle.fulljudge.proofs.CelledLemmas.{by_part, begins_with_given}
use Rattle.fulljudge.proofs.CompareLemmas.{from_places}
use Rattle.fulljudge.proofs.DifferLemmas.{word_differs}
use Rattle.fulljudge.proofs.FirstLemmas.{inits_hold}
use Rattle.fulljudge.proofs.FullLemmas.{trace_exists, begins_so, own_node, first_differs, bads_count, stays_judged, agreeing, agreeing_initial, given_by, constants_of}
use Rattle.fulljudge.proofs.JudgedLemmas.{all_get, at_first, node_is_leaf, judged_by_trace, judged_to_differ}
use Rattle.fulljudge.proofs.OwnerLemmas.{first_none, owner_is}
use Rattle.fulljudge.proofs.RunLemmas.{states_named}
use Rattle.fulljudge.proofs.ShapeLemmas.{flat_fused, state_widths}
use Rattle.fulljudge.proofs.StateNodeLemmas.{StateAt, state_at, get_map, id_at, index_within}
use Rattle.fulljudge.proofs.ToldLemmas.{WordsFit, told_own, told_word}
use Rattle.fulljudge.proofs.ValidLemmas.{had, all_had, state_fits, all_inputs_fit, words_fit}

-- ---- where the words of a value stand

first_next : (sorts : List Sort) (i : ℕ) (s : Sort) → slice_get sorts i ≡ Some s → first_index sorts (suc i) ≡ first_index sorts i + word_count s
first_next [] i s e = absurd (none-some s e)
first_next (t ∷ sorts) zero s e = omega (arith, first_none sorts, ap word_count (same_Some t s e))
first_next (t ∷ sorts) (suc i) s e = omega (arith, first_next sorts i s e)

owned : (sorts : List Sort) (i c : ℕ) (s : Sort) → slice_get sorts i ≡ Some s → c < word_count s → value_of_word sorts (first_index sorts i + c) ≡ i
owned sorts i c s e within = owner_is sorts i (first_index sorts i + c) (omega arith) (omega (arith, within, first_next sorts i s e))

-- ---- what is told of a value

cells_alike : (list less : List (ℕ × ℕ)) (n first x c m : ℕ) → ((i : ℕ) → i < m → given less (first + (c + i)) ≡ given list (first + (c + i))) → told_cells less n first x c m ≡ told_cells list n first x c m
cells_alike list less n first x c zero same = refl
cells_alike list less n first x c (suc m) same =
    let here : c + 0 ≡ c = omega arith in
    ap₂ (λ (hi : ℕ) (o : Option ℕ). concat_value hi n (unwrap_or o (read_value n x c)))
    (cells_alike list less n first x (suc c) m (λ i h. subst (λ (k : ℕ). given less (first + k) ≡ given list (first + k)) (omega arith) (same (suc i) (omega (arith, h)))))
    (subst (λ (k : ℕ). given less (first + k) ≡ given list (first + k)) here (same 0 (omega arith)))

-- of a value the same is told where the same is of its words
told_alike : (list less : List (ℕ × ℕ)) (s : Sort) (first x : ℕ) → ((c : ℕ) → c < word_count s → given less (first + c) ≡ given list (first + c)) → told less s first x ≡ told list s first x
told_alike list less (words n) first x same =
    let here : first + 0 ≡ first = omega arith in ap (λ (o : Option ℕ). unwrap_or o x) (subst (λ (k : ℕ). given less k ≡ given list k) here (same 0 (omega arith)))
told_alike list less (arrays k n) first x same =
    cells_alike list less n first x 0 (2 ^ k) (λ i h. subst (λ (j : ℕ). given less (first + j) ≡ given list (first + j)) (omega arith) (same i h))

nothing_fits : (o : Option ℕ) (P : ℕ → Type 0) → o ≡ None → IfSome o P
nothing_fits None P e = tt
nothing_fits (Some v) P e = absurd (none-some v (sym e))

-- where nothing is told of any it is as it was
told_nothing : (less : List (ℕ × ℕ)) (s : Sort) (first x : ℕ) → ((c : ℕ) → c < word_count s → given less (first + c) ≡ None) → x < 2 ^ (word_count s * word_width s) → told less s first x ≡ x
told_nothing less s first x none below =
    told_own less s first x (λ c within. nothing_fits (given less (first + c)) (λ v. v < 2 ^ word_width s) (none c within)) (λ c v within e. absurd (none-some v (sym (none c within) ∙ e))) below

-- told again it stays
told_again : (list : List (ℕ × ℕ)) (s : Sort) (first : ℕ) → WordsFit list s first → told list s first 0 < 2 ^ (word_count s * word_width s) → told list s first (told list s first 0) ≡ told list s first 0
told_again list s first fit below = told_own list s first (told list s first 0) fit (λ c v within e. sym (told_word list s first 0 c v fit within e)) below

-- ---- words of a witness

-- The same is said of a first frame, but nothing of the words of values that are left out.
pub record FirstLess (out : ℕ → Bool) (sorts : List Sort) (w v : FrameWords) : Type 0 where
  pub inputs : v.inputs ≡ w.inputs
  pub kept : (k : ℕ) → k < words_in sorts → out (value_of_word sorts k) ≡ false → given v.states k ≡ given w.states k
  pub none : (k : ℕ) → k < words_in sorts → out (value_of_word sorts k) ≡ true → given v.states k ≡ None

-- and of later ones the same
abbrev pub FramesLess : (ℕ → Bool) → List Sort → List FrameWords → List FrameWords → Type 0
FramesLess out sorts [] [] = Unit {0}
FramesLess out sorts [] (v ∷ vs) = ⊥
FramesLess out sorts (w ∷ ws) [] = ⊥
FramesLess out sorts (w ∷ ws) (v ∷ vs) = FirstLess out sorts w v × (vs ≡ ws)

module _ (full : List FullLine) (p : Places) (wide : List Item) (layout : Layout) (celled : List Item) (h : IsWrittenOut full p wide) (c : HasWordsOf full p wide layout celled) (model : IsWideModel greatest_width celled)
    (distinct_inputs : AreDistinct (ids_of (λ x. is_input x.body) celled)) (distinct_states : AreDistinct (ids_of (λ x. is_state x.body) celled)) (leaf_nodes state_nodes : List ℕ) (nodes : HasStateNodes full p wide layout celled leaf_nodes state_nodes) where
  abbrev leaves : List Leaf
  leaves = leaves_of is_state full

  abbrev sorts : List Sort
  sorts = map (λ (l : Leaf). l.sort) leaves

  abbrev out : ℕ → Bool
  out = has_other_node leaf_nodes state_nodes

  names_at : (i : ℕ) (l : Leaf) → slice_get leaves i ≡ Some l → names_full_state full l.id ≡ true
  names_at i l there = all_get (λ (m : Leaf). names_full_state full m.id ≡ true) leaves i l (states_named full p wide h) there

  sort_at : (i : ℕ) (l : Leaf) → slice_get leaves i ≡ Some l → slice_get sorts i ≡ Some l.sort
  sort_at i l there = get_map (λ (m : Leaf). m.sort) leaves i l there

  -- a state whose node is its leaf is not left out
  stays : (i : ℕ) (l : Leaf) → slice_get leaves i ≡ Some l → p.node l.id ≡ p.leaf l.id → out i ≡ false
  stays i l there same =
      let one = nodes.together i (id_at full p.leaf (lines_of is_state full) i l there ∙ ap (λ (k : ℕ). Some k) (sym same) ∙ sym (id_at full p.node (lines_of is_state full) i l there)) in
      ap not (eq-eqb (unwrap_or (slice_get leaf_nodes i) 0) (unwrap_or (slice_get state_nodes i) 0) (ap (λ (o : Option ℕ). unwrap_or o 0) one))

  open_stays : (i : ℕ) (l : Leaf) → slice_get leaves i ≡ Some l → init_of full l.id ≡ None → out i ≡ false
  open_stays i l there none = stays i l there ((placed full p wide l.id h (names_at i l there)).no_init none).0

  -- ---- a first frame

  module _ (w v : FrameWords) (less : FirstLess out sorts w v) where
    in_words : (i : ℕ) (l : Leaf) → slice_get leaves i ≡ Some l → (k : ℕ) → k < word_count l.sort → first_index sorts i + k < words_in sorts
    in_words i l there k within = omega (arith, within, index_within sorts i l.sort (sort_at i l there))

    same_told : (i : ℕ) (l : Leaf) → slice_get leaves i ≡ Some l → out i ≡ false → (x : ℕ) → told v.states l.sort (first_index sorts i) x ≡ told w.states l.sort (first_index sorts i) x
    same_told i l there kept x =
        told_alike w.states v.states l.sort (first_index sorts i) x
        (λ k within. less.kept (first_index sorts i + k) (in_words i l there k within) (ap out (owned sorts i k l.sort (sort_at i l there) within) ∙ kept))

    none_told : (i : ℕ) (l : Leaf) → slice_get leaves i ≡ Some l → out i ≡ true → (x : ℕ) → x < 2 ^ (word_count l.sort * word_width l.sort) → told v.states l.sort (first_index sorts i) x ≡ x
    none_told i l there gone x below =
        told_nothing v.states l.sort (first_index sorts i) x
        (λ k within. less.none (first_index sorts i + k) (in_words i l there k within) (ap out (owned sorts i k l.sort (sort_at i l there) within) ∙ gone)) below

    by_places : (Of : ℕ → Leaf → Type 0) → ((i : ℕ) (l : Leaf) → slice_get leaves i ≡ Some l → Of (first_index sorts i) l) → ByIndex Of 0 leaves
    by_places Of each = from_places Of 0 leaves (λ i l there. let none : first_index sorts i ≡ 0 + first_index sorts i = omega arith in subst (λ (n : ℕ). Of n l) none (each i l there))

    first_given : (state input : Frame) → IsFirstGiven full p wide state w input → IsFirstGiven full p wide state v input
    first_given state input has =
        record {
          states =
              by_places (FirstGiven full p wide v.states state input)
              (λ i l there none. at_first (FirstGiven full p wide w.states state input) i leaves l has.states there none ∙ sym (same_told i l there (open_stays i l there none) 0));
          inputs = subst (λ (list : List (ℕ × ℕ)). ByIndex (InputGiven p list input) 0 (leaves_of is_input full)) (sym less.inputs) has.inputs;
        }

    constants : ByIndex (ConstantTold p wide w.states) 0 leaves → ByIndex (ConstantTold p wide v.states) 0 leaves
    constants has =
        by_places (ConstantTold p wide v.states)
        (λ i l there x begins.
        let init = then_parts (constant_of wide) (init_value wide (p.leaf l.id)) x begins in
        same_told i l there (stays i l there (node_is_leaf full p wide h l.id init.0 (names_at i l there) init.1)) x
        ∙ at_first (ConstantTold p wide w.states) i leaves l has there x begins)

    -- a state that is told otherwise and has its leaf for its node is told so still
    differs : (f : Frame) (i : ℕ) → ((l : Leaf) → slice_get leaves i ≡ Some l → p.node l.id ≡ p.leaf l.id) → DiffersAt full w.states f i → DiffersAt full v.states f i
    differs f i own d =
        record {
          leaf = d.leaf;
          there = d.there;
          has_init = d.has_init;
          other = ap (λ (x : ℕ). x == f d.leaf.id) (same_told i d.leaf d.there (stays i d.leaf d.there (own d.leaf d.there)) (f d.leaf.id)) ∙ d.other;
        }

    -- what is told of states that begin with no constant is what they begin with
    module _ (begin : Frame) (begins : (q : ℕ) → init_word celled q ≡ None → begin q ≡ by_part is_state celled w.states q) (state : IsState celled begin) (input : IsInput celled (given_words celled w)) (g : Frame)
        (frame : IsFrame celled begin (given_words celled w) g) (fit : ByIndex (λ i l. WordsFit w.states l.sort i) 0 leaves) where
      at : (i : ℕ) (l : Leaf) → slice_get leaves i ≡ Some l → StateAt full p wide layout celled leaf_nodes state_nodes w g i l
      at i l there = state_at full p wide layout celled h c model distinct_inputs distinct_states leaf_nodes state_nodes nodes w begin begins state input g frame i l there

      not_not : (b : Bool) → not b ≡ false → b ≡ true
      not_not true e = refl
      not_not false e = absurd (true≢false e)

      -- where both are one node
      both_one : (i : ℕ) (l : Leaf) (there : slice_get leaves i ≡ Some l) → out i ≡ false → init_value wide (p.leaf l.id) ≡ None → told w.states l.sort (first_index sorts i) (read_by p (joined celled layout g) l.id) ≡ read_by p (joined celled layout g) l.id
      both_one i l there kept none =
          let s = at i l there in
          let one : s.leaf ≡ s.node = eqb-true s.leaf s.node (not_not (s.leaf == s.node) (ap₂ (λ (a b : Option ℕ). not (unwrap_or a 0 == unwrap_or b 0)) (sym s.is_leaf) (sym s.is_node) ∙ kept)) in
          let same : read_by p (joined celled layout g) l.id ≡ joined celled layout g (p.leaf l.id) =
          sym (s.node_whole.word begin (given_words celled w) g state input frame) ∙ ap g (sym one) ∙ s.leaf_whole.word begin (given_words celled w) g state input frame in
          let own = same ∙ s.own_told none in
          let below = subst (λ (x : ℕ). x < 2 ^ (word_count l.sort * word_width l.sort)) (s.own_told none) s.own_below in
          ap (told w.states l.sort (first_index sorts i)) own ∙ told_again w.states l.sort (first_index sorts i) (at_first (λ i l. WordsFit w.states l.sort i) i leaves l fit there) below ∙ sym own

      by_init : (i : ℕ) (l : Leaf) (there : slice_get leaves i ≡ Some l) (o : Operand) → init_word wide (p.leaf l.id) ≡ None → InitIsWritten full p wide l.id o → init_value wide (p.leaf l.id) ≡ None
      by_init i l there o none (inl same) = absurd (none-some same.word (sym none ∙ same.begins))
      by_init i l there o none (inr choice) = choice.begins_open

      opened : (i : ℕ) (l : Leaf) (there : slice_get leaves i ≡ Some l) → init_word wide (p.leaf l.id) ≡ None → (o : Option Operand) → init_of full l.id ≡ o → init_value wide (p.leaf l.id) ≡ None
      opened i l there none None e = ((placed full p wide l.id h (names_at i l there)).no_init e).1
      opened i l there none (Some o) e = by_init i l there o none (init_said (InitIsWritten full p wide) full l.id o h.inits e)

      other_at : (i : ℕ) (l : Leaf) (there : slice_get leaves i ≡ Some l) → init_word wide (p.leaf l.id) ≡ None → (b : Bool) → out i ≡ b
          → told v.states l.sort (first_index sorts i) (read_by p (joined celled layout g) l.id) ≡ read_by p (joined celled layout g) l.id
      other_at i l there none true e = none_told i l there e (read_by p (joined celled layout g) l.id) (at i l there).begun_below
      other_at i l there none false e =
          same_told i l there e (read_by p (joined celled layout g) l.id) ∙ both_one i l there e (opened i l there none (init_of full l.id) refl)

      others : ByIndex (OtherTold full p wide v.states (read_by p (joined celled layout g))) 0 leaves
      others = by_places (OtherTold full p wide v.states (read_by p (joined celled layout g))) (λ i l there has none. other_at i l there none (out i) refl)

  -- ---- all frames

  all_given : (ws vs : List FrameWords) (state : Frame) (inputs : List Frame) → FramesLess out sorts ws vs → AreGiven full p wide state ws inputs → AreGiven full p wide state vs inputs
  all_given [] [] state inputs less has = has
  all_given [] (v ∷ vs) state inputs less has = absurd less
  all_given (w ∷ ws) [] state inputs less has = absurd less
  all_given (w ∷ ws) (v ∷ vs) state [] less has = absurd has
  all_given (w ∷ ws) (v ∷ vs) state (input ∷ inputs) less has = (first_given w v less.0 state input has.0, subst (λ (l : List FrameWords). AllZip (IsLaterGiven full p) l inputs) (sym less.1) has.1)

  all_constants : (ws vs : List FrameWords) → FramesLess out sorts ws vs → ByIndex (ConstantTold p wide (initial_part ws)) 0 leaves → ConstantsTold full p wide vs
  all_constants [] [] less has = tt
  all_constants [] (v ∷ vs) less has = absurd less
  all_constants (w ∷ ws) [] less has = absurd less
  all_constants (w ∷ ws) (v ∷ vs) less has = constants w v less.0 has

  all_differ : (ws vs : List FrameWords) (fs : List Frame) (i : ℕ) → FramesLess out sorts ws vs → ((l : Leaf) → slice_get leaves i ≡ Some l → p.node l.id ≡ p.leaf l.id) → FirstDiffers full ws fs i → FirstDiffers full vs fs i
  all_differ [] [] fs i less own d = d
  all_differ [] (v ∷ vs) fs i less own d = absurd d
  all_differ (w ∷ ws) [] fs i less own d = absurd less
  all_differ (w ∷ ws) (v ∷ vs) [] i less own d = d
  all_differ (w ∷ ws) (v ∷ vs) (f ∷ fs) i less own d = differs w v less.0 f i own d

  all_others : (ws vs : List FrameWords) (begin : Frame) (gs : List Frame) → FramesLess out sorts ws vs → ((q : ℕ) → init_word celled q ≡ None → begin q ≡ by_part is_state celled (initial_part ws) q) → IsState celled begin
      → AllByRecursion (IsInput celled) (map (given_words celled) ws) → IsTrace celled begin (map (given_words celled) ws) gs → ByIndex (λ i l. WordsFit (initial_part ws) l.sort i) 0 leaves → OthersTold full p wide vs (map (read_by p) (map (joined celled layout) gs))
  all_others [] [] begin gs less begins state inputs trace fit = tt
  all_others [] (v ∷ vs) begin gs less begins state inputs trace fit = absurd less
  all_others (w ∷ ws) [] begin gs less begins state inputs trace fit = absurd less
  all_others (w ∷ ws) (v ∷ vs) begin [] less begins state inputs trace fit = tt
  all_others (w ∷ ws) (v ∷ vs) begin (g ∷ gs) less begins state inputs trace fit = others w v less.0 begin begins state inputs.0 g trace.0 fit

  -- ---- the judgement

  -- what a witness says fits, and this less is said
  pub record LessSaid (w v : Words) : Type 0 where
    pub state : IsState celled (initial_words celled w)
    pub inputs : AllByRecursion (IsInput celled) (given_frames celled w)
    pub words : ByIndex (λ i l. WordsFit (initial_part w.frames) l.sort i) 0 leaves
    pub claims : v.claims ≡ w.claims
    pub frames : FramesLess out sorts w.frames v.frames

  -- a judgement of it is of the one that says less, where a first word that differs is one of a state
  pub less_judged : (w v : Words) (j : Judgement) → LessSaid w v → JudgesWords celled w j → ((k : ℕ) → j ≡ judgement.InitDiffers k → first_different celled (initial_words celled w) ≡ Some k → k < words_in sorts) → IsJudged full v (judged_by sorts None j)
  less_judged w v j said judges of_state = by (first_different celled (initial_words celled w)) refl
    where
      begin : Frame
      begin = initial_words celled w

      trace : (gs : List Frame) × IsTrace celled begin (given_frames celled w) gs
      trace = trace_exists celled begin (given_frames celled w) model

      shown : (o : Option ℕ) → first_different celled begin ≡ o → j ≡ verdict o w.claims (length (nodes_of is_bad celled)) (map (model_shows celled) trace.0)
      shown o e = judges trace.0 trace.1 ∙ ap (λ (o : Option ℕ). verdict o w.claims (length (nodes_of is_bad celled)) (map (model_shows celled) trace.0)) e

      agreed : first_different celled begin ≡ None → IsJudged full v (judged_by sorts None j)
      agreed e =
          let so = begins_so celled w model distinct_states e in
          let up = trace_above wide celled layout c.fits begin (given_frames celled w) trace.0 said.state said.inputs trace.1 in
          let above = wide_initial wide celled layout c.fits begin (record { fits = said.state; inits = inits_hold celled model distinct_states begin so }) in
          let has = all_given w.frames v.frames (joined celled layout begin) (map (joined celled layout) (given_frames celled w)) said.frames (given_by full p wide layout celled h c model distinct_inputs distinct_states w begin (begins_with_given celled w)) in
          let gs : List Frame = map (joined celled layout) trace.0 in
          let same : j ≡ verdict None v.claims (length (nodes_of is_bad wide)) (map (model_shows wide) gs) =
          shown None e ∙ ap₂ (λ (n : ℕ) (l : List Shown). verdict None w.claims n l) (bads_count full p wide layout celled h c model distinct_inputs distinct_states) (sym up.3)
          ∙ ap (λ (l : List ℕ). verdict None l (length (nodes_of is_bad wide)) (map (model_shows wide) gs)) (sym said.claims) in
          subst (λ (r : Judgement). IsJudged full v (judged_by sorts None r)) (sym same)
          (subst (IsJudged full v) (sym (stays_judged full p wide layout celled h c model distinct_inputs distinct_states (violation_from 0 (map (model_shows wide) gs)) (unreached_from v.claims (map (model_shows wide) gs) 0 (length (nodes_of is_bad wide))) (length (map (model_shows wide) gs))))
          (judged_by_trace full p wide h v (joined celled layout begin) (map (joined celled layout) (given_frames celled w)) gs above up.1 up.2 has
          (all_constants w.frames v.frames said.frames (constants_of full p wide layout celled h c model distinct_inputs distinct_states w so said.words))
          (all_others w.frames v.frames begin trace.0 said.frames (begins_with_given celled w) said.state said.inputs trace.1 said.words)))

      otherwise : (k : ℕ) → first_different celled begin ≡ Some k → k < words_in sorts → IsJudged full v (judgement.InitDiffers (value_of_word sorts k))
      otherwise k e few =
          let d = word_differs celled w k e in
          let start : Frame = agreeing full p wide layout celled h c model distinct_inputs distinct_states w in
          let run = trace_exists celled start (given_frames celled w) model in
          let initial = agreeing_initial full p wide layout celled h c model distinct_inputs distinct_states w said.state in
          let up = trace_above wide celled layout c.fits start (given_frames celled w) run.0 initial.fits said.inputs run.1 in
          let above = wide_initial wide celled layout c.fits start initial in
          let gs : List Frame = map (joined celled layout) run.0 in
          let inputs : List Frame = map (joined celled layout) (given_frames celled w) in
          let of_value : k < length (flat_map (λ (l : Leaf). word_widths l.sort) leaves) = subst (λ (n : ℕ). k < n) (ap length (flat_fused word_widths (λ (l : Leaf). l.sort) leaves)) few in
          let has = given_by full p wide layout celled h c model distinct_inputs distinct_states w start (λ q none. ap (λ (o : Option ℕ). unwrap_or o (initial_words celled w q)) none ∙ begins_with_given celled w q none) in
          judged_to_differ full p wide h v (joined celled layout start) inputs gs (value_of_word sorts k) above up.1 up.2 (all_given w.frames v.frames (joined celled layout start) inputs said.frames has)
          (all_differ w.frames v.frames (map (read_by p) gs) (value_of_word sorts k) said.frames (own_node full p wide layout celled h c model distinct_inputs distinct_states w k d said.words of_value)
          (first_differs full p wide layout celled h c model distinct_inputs distinct_states w k d said.words of_value w.frames (joined celled layout start) inputs gs refl above up.2 has))

      by : (o : Option ℕ) → first_different celled begin ≡ o → IsJudged full v (judged_by sorts None j)
      by None e = agreed e
      by (Some k) e = subst (λ (r : Judgement). IsJudged full v (judged_by sorts None r)) (sym (shown (Some k) e)) (otherwise k e (of_state k (shown (Some k) e) e))

  -- of a valid witness what it says fits
  pub valid_said : (w : Witness) (v : Words) → IsWitness (shape_of celled) w → v.claims ≡ w.claims → FramesLess out sorts (words_of w).frames v.frames → LessSaid (words_of w) v
  valid_said w v valid claims frames = by w.frames refl valid.frames
    where
      by : (all : List Parts) → w.frames ≡ all → AreFrames (shape_of celled) all → LessSaid (words_of w) v
      by [] e is = absurd is
      by (first ∷ later) e is =
          let over = all_had (shape_of celled) (first ∷ later) is in
          let part = ap (λ (l : List Parts). initial_part (map frame_words l)) e in
          let fused : (word_shape (full_shape full)).states ≡ flat_map (λ (l : Leaf). word_widths l.sort) leaves = flat_fused word_widths (λ (l : Leaf). l.sort) leaves in
          record {
            state = state_fits celled w model (had first.states) part over.0.0;
            inputs = subst (λ (l : List Parts). AllByRecursion (IsInput celled) (map (given_words celled) (map frame_words l))) (sym e) (all_inputs_fit celled (shape_of celled) (first ∷ later) refl refl over);
            words = subst (λ (list : List (ℕ × ℕ)). ByIndex (λ i l. WordsFit list l.sort i) 0 leaves) (sym part)
                (words_fit (had first.states) (widths_of is_state celled) [] (map (bits_of celled) c.more) leaves 0
                (state_widths full p wide layout celled h c model ∙ ap (λ (l : List ℕ). l ++ map (bits_of celled) c.more) fused) refl over.0.0);
            claims = claims;
            frames = frames;
          }
