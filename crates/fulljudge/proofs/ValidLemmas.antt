-- The words of a witness over a list in which each word of a value has a leaf fit it.
use Rattle.std.proofs.Common.{◌≡◌, ℕ, ◌+◌, ◌^◌, ◌<◌, ◌==◌, Bool, true, false, cond, nat_eq, eqb-true, List, [], ◌∷◌, ◌++◌, map, flat_map, length, replicate, slice_index, Option, Some, None, IfSome, unwrap_or, option_map, append_assoc, refl, sym, ap, subst, ◌∙◌, arith, pow_pos}
use Rattle.std.specs.List.{AllByRecursion, find}
use Rattle.std.specs.Option.{option_or}
use Rattle.std.proofs.lemmas.List.Elements.{recursion_from_All}
use Rattle.std.proofs.lemmas.List.{length-append, length-replicate, get_or_append_left, get_or-append-add, get_or-replicate}
use Rattle.std.proofs.lemmas.Option.{none-some}
use Rattle.btor2.specs.declared.item.Item.{Item}
use Rattle.btor2.specs.declared.item.Body.{Body}
use Rattle.btor2.specs.declared.item.Body.TheVariants as body
use Rattle.btor2.specs.Items.{is_input, is_state, names_state, init_word}
use Rattle.btor2.specs.Trace.{bits_of, InputFits, StateFits, IsInput, IsState}
use Rattle.wide.specs.WideModels.{greatest_width, IsWideModel}
use Rattle.full.proofs.ListLemmas.{all_with, all_of}
use Rattle.fit.proofs.ModelLemmas.{init_words_fit}
use Rattle.witness.specs.Texts.{Shape, Assignment, IsAssignment, Parts, Witness, IsPart, IsFreePart, AreParts, AreFrames, widths_of}
use Rattle.witness.specs.Judgements.{pairs_of, frame_words, words_of, given, given_to, initial_part, initial_words, given_words}
use Rattle.rejoin.proofs.SplitPartLemmas.{given_below, given_fits}
use Rattle.fulljudge.specs.Shapes.{Leaf, word_count, word_width, word_widths}
use Rattle.fulljudge.specs.Told.{ByIndex}

-- ---- parts

abbrev pub AreOf : List ℕ → List Assignment → Type 0
AreOf widths list = AllByRecursion (IsAssignment widths) list

-- what a part of states has, where there is one
abbrev pub had : Option (List Assignment) → List Assignment
had states = unwrap_or states []

abbrev pub AreHad : Shape → Parts → Type 0
AreHad shape parts = AreOf shape.states (had parts.states) × AreOf shape.inputs parts.inputs

had_by : (shape : Shape) (MayBe : List Assignment → Type 0) (parts : Parts) → ((list : List Assignment) → MayBe list → IsPart shape.states list) → AreParts shape MayBe parts → AreHad shape parts
had_by shape MayBe parts is h = (by parts.states h.states, recursion_from_All (IsAssignment shape.inputs) parts.inputs h.inputs.each)
  where
    by : (o : Option (List Assignment)) → IfSome o MayBe → AreOf shape.states (had o)
    by None may = tt
    by (Some list) may = recursion_from_All (IsAssignment shape.states) list (is list may).each

pub all_had : (shape : Shape) (frames : List Parts) → AreFrames shape frames → AllByRecursion (AreHad shape) frames
all_had shape [] h = absurd h
all_had shape (first ∷ later) h = (
  had_by shape (IsPart shape.states) first (λ list is. is) h.0,
  all_with (AreParts shape (IsFreePart shape)) (AreHad shape) later (λ parts are. had_by shape (IsFreePart shape) parts (λ list is. is.part) are)
      (recursion_from_All (AreParts shape (IsFreePart shape)) later h.1),
)

below : (widths : List ℕ) (list : List Assignment) → AreOf widths list → AllByRecursion (λ (a : Assignment). a.word < 2 ^ slice_index widths a.index) list
below widths list h = all_with (IsAssignment widths) (λ (a : Assignment). a.word < 2 ^ slice_index widths a.index) list (λ a is. is.word) h

-- ---- words that fit

word_fits : (o : Option ℕ) (n : ℕ) → IfSome o (λ x. x < 2 ^ n) → unwrap_or o 0 < 2 ^ n
word_fits None n h = pow_pos n
word_fits (Some x) n h = h

either_fits : (o init : Option ℕ) (n : ℕ) → IfSome o (λ x. x < 2 ^ n) → unwrap_or init 0 < 2 ^ n → unwrap_or (option_or o init) 0 < 2 ^ n
either_fits None init n h k = k
either_fits (Some x) init n h k = h

-- the words that are given in a frame
input_fits : (celled : List Item) (parts : Parts) → AreOf (widths_of is_state celled) (had parts.states) → AreOf (widths_of is_input celled) parts.inputs → IsInput celled (given_words celled (frame_words parts))
input_fits celled parts states inputs = all_of (λ (x : Item). InputFits celled (given_words celled (frame_words parts)) x.id x.body) celled (λ x. by x.id x.body)
  where
    fits : (id : ℕ) → given_words celled (frame_words parts) id < 2 ^ bits_of celled id
    fits id = word_fits _ (bits_of celled id) (chosen (names_state celled id))
      where
        chosen : (b : Bool) → IfSome (cond b (given_to is_state celled (pairs_of (had parts.states)) id) (given_to is_input celled (pairs_of parts.inputs) id)) (λ x. x < 2 ^ bits_of celled id)
        chosen true = given_fits is_state celled (had parts.states) id (below (widths_of is_state celled) (had parts.states) states)
        chosen false = given_fits is_input celled parts.inputs id (below (widths_of is_input celled) parts.inputs inputs)

    by : (id : ℕ) (b : Body) → InputFits celled (given_words celled (frame_words parts)) id b
    by id (body.Input s) = fits id
    by id (body.State s) = λ free. fits id
    by id _ = tt

pub all_inputs_fit : (celled : List Item) (shape : Shape) (frames : List Parts) → shape.states ≡ widths_of is_state celled → shape.inputs ≡ widths_of is_input celled → AllByRecursion (AreHad shape) frames
    → AllByRecursion (IsInput celled) (map (given_words celled) (map frame_words frames))
all_inputs_fit celled shape [] s i h = tt
all_inputs_fit celled shape (parts ∷ frames) s i h =
    (input_fits celled parts (subst (λ (l : List ℕ). AreOf l (had parts.states)) s h.0.0) (subst (λ (l : List ℕ). AreOf l parts.inputs) i h.0.1), all_inputs_fit celled shape frames s i h.1)

-- the words that states begin with
pub state_fits : (celled : List Item) (w : Witness) (model : IsWideModel greatest_width celled) (list : List Assignment) → initial_part (words_of w).frames ≡ pairs_of list → AreOf (widths_of is_state celled) list → IsState celled (initial_words celled (words_of w))
state_fits celled w model list e h = all_of (λ (x : Item). StateFits celled (initial_words celled (words_of w)) x.id x.body) celled (λ x. by x.id x.body)
  where
    fits : (id : ℕ) → initial_words celled (words_of w) id < 2 ^ bits_of celled id
    fits id =
        subst (λ (l : List (ℕ × ℕ)). unwrap_or (option_or (given_to is_state celled l id) (init_word celled id)) 0 < 2 ^ bits_of celled id) (sym e)
        (either_fits (given_to is_state celled (pairs_of list) id) (init_word celled id) (bits_of celled id) (given_fits is_state celled list id (below (widths_of is_state celled) list h)) (init_words_fit celled id model))

    by : (id : ℕ) (b : Body) → StateFits celled (initial_words celled (words_of w)) id b
    by id (body.State s) = λ carried. fits id
    by id _ = tt

-- ---- words of values

width_at : (before rest : List ℕ) (count n c : ℕ) → c < count → slice_index (before ++ (replicate count n ++ rest)) (length before + c) ≡ n
width_at before rest count n c h =
    let within : c < length (replicate count n) = subst (λ (m : ℕ). c < m) (sym (length-replicate count n)) h in
    get_or-append-add before (replicate count n ++ rest) c 0 ∙ get_or_append_left (replicate count n) rest 0 c within ∙ get_or-replicate count c n 0 h

pub words_fit : (list : List Assignment) (widths before behind : List ℕ) (leaves : List Leaf) (i : ℕ) → widths ≡ before ++ (flat_map (λ (l : Leaf). word_widths l.sort) leaves ++ behind) → length before ≡ i → AreOf widths list
    → ByIndex (λ i l. (c : ℕ) → c < word_count l.sort → IfSome (given (pairs_of list) (i + c)) (λ v. v < 2 ^ word_width l.sort)) i leaves
words_fit list widths before behind [] i e at h = tt
words_fit list widths before behind (l ∷ leaves) i e at h =
    let more : List ℕ = flat_map (λ (m : Leaf). word_widths m.sort) leaves in
    let rest : List ℕ = more ++ behind in
    let here : widths ≡ before ++ (word_widths l.sort ++ rest) = e ∙ ap (λ (ws : List ℕ). before ++ ws) (append_assoc (word_widths l.sort) more behind) in (
      (λ c within.
          subst (λ (n : ℕ). IfSome (given (pairs_of list) (i + c)) (λ v. v < 2 ^ n))
          (ap (λ (k : ℕ). slice_index widths k) (ap (λ (n : ℕ). n + c) (sym at)) ∙ ap (λ (ws : List ℕ). slice_index ws (length before + c)) here ∙ width_at before rest (word_count l.sort) (word_width l.sort) c within)
          (given_below widths list (i + c) (below widths list h))),
      words_fit list widths (before ++ word_widths l.sort) behind leaves (i + word_count l.sort) (here ∙ sym (append_assoc before (word_widths l.sort) rest))
          (length-append before (word_widths l.sort) ∙ omega (arith, at, length-replicate (word_count l.sort) (word_width l.sort))) h,
    )

pub given_within : (widths : List ℕ) (list : List Assignment) (k v : ℕ) → AreOf widths list → given (pairs_of list) k ≡ Some v → k < length widths
given_within widths [] k v h e = absurd (none-some v e)
given_within widths (a ∷ list) k v h e = by (nat_eq a.index k) refl e (given_within widths list k v h.1)
  where
    by : (b : Bool) → nat_eq a.index k ≡ b → option_map (λ (p : ℕ × ℕ). p.1) (cond b (Some (a.index, a.word)) (find (λ (p : ℕ × ℕ). p.0 == k) (pairs_of list))) ≡ Some v → (given (pairs_of list) k ≡ Some v → k < length widths) → k < length widths
    by true t e more = subst (λ (j : ℕ). j < length widths) (eqb-true a.index k t) h.0.index
    by false t e more = more e
