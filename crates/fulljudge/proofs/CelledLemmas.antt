-- The words that a list is told in which each word has a leaf are those that the list is told that a model is written out as.
use Rattle.std.proofs.Common.{◌≡◌, ℕ, Bool, true, false, cond, List, [], ◌∷◌, ◌++◌, map, flat_map, filter, Option, Some, None, unwrap_or, option_and_then, append-nil, refl, sym, ap, subst, ◌∙◌}
use Rattle.std.specs.List.{AllByRecursion, AllZip}
use Rattle.std.specs.Option.{option_or}
use Rattle.btor2.specs.declared.item.Item.{Item}
use Rattle.btor2.specs.declared.item.Body.{Body}
use Rattle.btor2.specs.Items.{find_item, is_input, is_state, is_free, is_carried_state, names_state, constant_of, init_value, init_word}
use Rattle.btor2.specs.Trace.{Frame, bits_of, state_word}
use Rattle.btor2.proofs.IdLemmas.{input_is_no_state, state_item}
use Rattle.full.proofs.ListLemmas.{all_at}
use Rattle.wide.specs.WideModels.{greatest_width, IsWideModel}
use Rattle.full.specs.Lines.{FullLine}
use Rattle.full.specs.Agreement.{names_full_state}
use Rattle.full.specs.WrittenOut.{Places, IsWrittenOut}
use Rattle.full.proofs.WideLemmas.{found_by_id}
use Rattle.full.proofs.PlaceLemmas.{placed}
use Rattle.fit.specs.Fitting.{Layout, pieces_word, joined, ids_of, AbsenceIsCarried, IsFittingOf}
use Rattle.fit.proofs.ListLemmas.{all_with, all_both, AreDistinct, of_ids}
use Rattle.fit.proofs.PieceLemmas.{word_same}
use Rattle.witness.specs.Judgements.{FrameWords, Words, given_to, initial_part, initial_words, given_words}
use Rattle.witness.proofs.GivenWordLemmas.{named_state}
use Rattle.fulljudge.specs.Shapes.{Leaf, leaves_of}
use Rattle.fulljudge.specs.Told.{told, ByIndex}
use Rattle.fulljudge.specs.Written.{InputGiven, FirstGiven, LaterGiven, IsFirstGiven, IsLaterGiven, AreGiven}
use Rattle.fulljudge.specs.Cells.{HasWordsOf}
use Rattle.fulljudge.proofs.RunLemmas.{by_index, states_named}
use Rattle.fulljudge.proofs.CellLemmas.{HaveGiven, given_at, values_told}

-- ---- the leaves of a kind

-- each is an item of the kind
abbrev pub IsOfKind : (Body → Bool) → List Item → ℕ → Type 0
IsOfKind kind items id = (y : Item) × (find_item items id ≡ Some y) × (kind y.body ≡ true)

kind_from : (kind : Body → Bool) (items xs : List Item) → AllByRecursion (λ (x : Item). find_item items x.id ≡ Some x) xs → AllByRecursion (IsOfKind kind items) (ids_of (λ x. kind x.body) xs)
kind_from kind items [] h = tt
kind_from kind items (x ∷ xs) h = by (kind x.body) refl (kind_from kind items xs h.1)
  where
    by : (b : Bool) → kind x.body ≡ b → AllByRecursion (IsOfKind kind items) (ids_of (λ x. kind x.body) xs)
        → AllByRecursion (IsOfKind kind items) (map (λ (y : Item). y.id) (cond b (x ∷ filter (λ (y : Item). kind y.body) xs) (filter (λ (y : Item). kind y.body) xs)))
    by true e rest = ((x, h.0, e), rest)
    by false e rest = rest

pub all_of_kind : (kind : Body → Bool) (items : List Item) → IsWideModel greatest_width items → AllByRecursion (IsOfKind kind items) (ids_of (λ x. kind x.body) items)
all_of_kind kind items w = kind_from kind items items (found_by_id greatest_width items w)

all_front : {A : Type 0} (P : A → Type 0) (xs ys : List A) → AllByRecursion P (xs ++ ys) → AllByRecursion P xs
all_front P [] ys h = tt
all_front P (x ∷ xs) ys h = (h.0, all_front P xs ys h.1)

all_behind : {A : Type 0} (P : A → Type 0) (xs ys : List A) → AllByRecursion P (xs ++ ys) → AllByRecursion P ys
all_behind P [] ys h = h
all_behind P (x ∷ xs) ys h = all_behind P xs ys h.1

-- what holds of all pieces holds of those of each leaf
of_each : {A B : Type 0} (P : B → Type 0) (f : A → List B) (xs : List A) → AllByRecursion P (flat_map f xs) → AllByRecursion (λ x. AllByRecursion P (f x)) xs
of_each P f [] h = tt
of_each P f (x ∷ xs) h = (all_front P (f x) (flat_map f xs) h, of_each P f xs (all_behind P (f x) (flat_map f xs) h))

named_input : (items : List Item) (id : ℕ) (y : Item) → find_item items id ≡ Some y → is_input y.body ≡ true → names_state items id ≡ false
named_input items id y found is = rw (found, input_is_no_state y.body is) refl

-- ---- what is given to each

-- to each leaf of a kind its index is given, or 0
abbrev pub by_part : (Body → Bool) → List Item → List (ℕ × ℕ) → Frame
by_part kind items list q = unwrap_or (given_to kind items list q) 0

pub have_given : (kind : Body → Bool) (items : List Item) (list : List (ℕ × ℕ)) → AreDistinct (ids_of (λ x. kind x.body) items) → HaveGiven list (by_part kind items list) (ids_of (λ x. kind x.body) items)
have_given kind items list distinct before after p e = ap (λ (o : Option ℕ). unwrap_or o 0) (given_at kind items list before after p distinct e)

only_given : (o init : Option ℕ) → init ≡ None → unwrap_or (option_or o init) 0 ≡ unwrap_or o 0
only_given None init e = ap (λ (i : Option ℕ). unwrap_or i 0) e
only_given (Some v) init e = refl

no_init_word : (items : List Item) (q : ℕ) → init_value items q ≡ None → init_word items q ≡ None
no_init_word items q e = ap (option_and_then (constant_of items)) e

-- a state that is carried and has no init line has words without one
pub carried_absence : (wide celled : List Item) (layout : Layout) → IsFittingOf wide layout celled → (a : ℕ) → names_state wide a ≡ true → is_free wide a ≡ false → init_value wide a ≡ None → AllByRecursion (λ q. init_value celled q ≡ None) (layout a)
carried_absence wide celled layout fits a names carried none =
    let found = state_item wide a names in
    let x : Item = found.0 in
    let inside = found.1 in
    let all = subst (AllByRecursion (λ (y : Item). is_carried_state wide y ≡ true → AbsenceIsCarried wide layout celled y.id)) inside.splits (of_ids (AbsenceIsCarried wide layout celled) (is_carried_state wide) wide fits.no_other_inits) in
    let free : is_free wide x.id ≡ false = ap (is_free wide) (sym found.2) ∙ carried in
    let absent = all_at (λ (y : Item). is_carried_state wide y ≡ true → AbsenceIsCarried wide layout celled y.id) inside.before inside.after x all (rw (found.3, free) refl) in
    subst (λ (k : ℕ). AllByRecursion (λ q. init_value celled q ≡ None) (layout k)) (sym found.2) (absent (ap (init_value wide) (sym found.2) ∙ none))

module _ (full : List FullLine) (p : Places) (wide : List Item) (layout : Layout) (celled : List Item) (h : IsWrittenOut full p wide) (c : HasWordsOf full p wide layout celled) (model : IsWideModel greatest_width celled)
    (distinct_inputs : AreDistinct (ids_of (λ x. is_input x.body) celled)) (distinct_states : AreDistinct (ids_of (λ x. is_state x.body) celled)) where
  abbrev width : ℕ → ℕ
  width = bits_of celled

  input_pieces : AllByRecursion (λ (l : Leaf). AllByRecursion (IsOfKind is_input celled) (layout (p.node l.id))) (leaves_of is_input full)
  input_pieces = of_each (IsOfKind is_input celled) (λ (l : Leaf). layout (p.node l.id)) (leaves_of is_input full) (subst (AllByRecursion (IsOfKind is_input celled)) (sym c.inputs) (all_of_kind is_input celled model))

  pub state_pieces : AllByRecursion (λ (l : Leaf). AllByRecursion (IsOfKind is_state celled) (layout (p.leaf l.id))) (leaves_of is_state full)
  state_pieces =
      of_each (IsOfKind is_state celled) (λ (l : Leaf). layout (p.leaf l.id)) (leaves_of is_state full)
      (all_front (IsOfKind is_state celled) (flat_map (λ (l : Leaf). layout (p.leaf l.id)) (leaves_of is_state full)) c.more (subst (AllByRecursion (IsOfKind is_state celled)) (sym c.states) (all_of_kind is_state celled model)))

  -- what is told of inputs, and of states, by what is given to the words
  inputs_by_words : (list : List (ℕ × ℕ)) → ByIndex (λ i l. pieces_word width (by_part is_input celled list) (layout (p.node l.id)) ≡ told list l.sort i 0) 0 (leaves_of is_input full)
  inputs_by_words list =
      values_told list (by_part is_input celled list) width (λ (l : Leaf). layout (p.node l.id)) (ids_of (λ x. is_input x.body) celled) [] [] (leaves_of is_input full) 0 (have_given is_input celled list distinct_inputs)
      (sym c.inputs ∙ sym (append-nil (flat_map (λ (l : Leaf). layout (p.node l.id)) (leaves_of is_input full)))) refl c.input_words

  states_by_words : (list : List (ℕ × ℕ)) → ByIndex (λ i l. pieces_word width (by_part is_state celled list) (layout (p.leaf l.id)) ≡ told list l.sort i 0) 0 (leaves_of is_state full)
  states_by_words list =
      values_told list (by_part is_state celled list) width (λ (l : Leaf). layout (p.leaf l.id)) (ids_of (λ x. is_state x.body) celled) [] c.more (leaves_of is_state full) 0 (have_given is_state celled list distinct_states)
      (sym c.states) refl c.state_words

  given_input : (w : FrameWords) (ps : List ℕ) → AllByRecursion (IsOfKind is_input celled) ps → pieces_word width (given_words celled w) ps ≡ pieces_word width (by_part is_input celled w.inputs) ps
  given_input w ps kinds =
      word_same width (given_words celled w) (by_part is_input celled w.inputs) ps
      (all_with (IsOfKind is_input celled) (λ q. given_words celled w q ≡ by_part is_input celled w.inputs q) ps
      (λ q is. ap (λ (b : Bool). unwrap_or (cond b (given_to is_state celled w.states q) (given_to is_input celled w.inputs q)) 0) (named_input celled q is.0 is.1 is.2)) kinds)

  given_state : (w : FrameWords) (ps : List ℕ) → AllByRecursion (IsOfKind is_state celled) ps → pieces_word width (given_words celled w) ps ≡ pieces_word width (by_part is_state celled w.states) ps
  given_state w ps kinds =
      word_same width (given_words celled w) (by_part is_state celled w.states) ps
      (all_with (IsOfKind is_state celled) (λ q. given_words celled w q ≡ by_part is_state celled w.states q) ps
      (λ q is. ap (λ (b : Bool). unwrap_or (cond b (given_to is_state celled w.states q) (given_to is_input celled w.inputs q)) 0) (named_state celled q is.0 is.1 is.2)) kinds)

  inputs_given : (w : FrameWords) → ByIndex (InputGiven p w.inputs (joined celled layout (given_words celled w))) 0 (leaves_of is_input full)
  inputs_given w =
      by_index (λ (l : Leaf). AllByRecursion (IsOfKind is_input celled) (layout (p.node l.id))) (λ i l. pieces_word width (by_part is_input celled w.inputs) (layout (p.node l.id)) ≡ told w.inputs l.sort i 0)
      (InputGiven p w.inputs (joined celled layout (given_words celled w))) 0 (leaves_of is_input full) (λ i l kinds e. given_input w (layout (p.node l.id)) kinds ∙ e) input_pieces (inputs_by_words w.inputs)

  pub later_given : (w : FrameWords) → IsLaterGiven full p w (joined celled layout (given_words celled w))
  later_given w =
      record {
        states =
            by_index (λ (l : Leaf). AllByRecursion (IsOfKind is_state celled) (layout (p.leaf l.id))) (λ i l. pieces_word width (by_part is_state celled w.states) (layout (p.leaf l.id)) ≡ told w.states l.sort i 0)
            (LaterGiven full p w.states (joined celled layout (given_words celled w))) 0 (leaves_of is_state full) (λ i l kinds e none. given_state w (layout (p.leaf l.id)) kinds ∙ e) state_pieces (states_by_words w.states);
        inputs = inputs_given w;
      }

  -- what a state without an init line begins with, where its words begin with what is given to them
  module _ (w : FrameWords) (begin : Frame) (begins : (q : ℕ) → init_word celled q ≡ None → begin q ≡ by_part is_state celled w.states q) where
    begins_given : (ps : List ℕ) → AllByRecursion (λ q. init_value celled q ≡ None) ps → pieces_word width begin ps ≡ pieces_word width (by_part is_state celled w.states) ps
    begins_given ps none =
        word_same width begin (by_part is_state celled w.states) ps
        (all_with (λ q. init_value celled q ≡ None) (λ q. begin q ≡ by_part is_state celled w.states q) ps (λ q e. begins q (no_init_word celled q e)) none)

    first_state : (l : Leaf) → names_full_state full l.id ≡ true → AllByRecursion (IsOfKind is_state celled) (layout (p.leaf l.id)) → init_value wide (p.leaf l.id) ≡ None
        → state_word wide (joined celled layout begin) (joined celled layout (given_words celled w)) (p.leaf l.id) ≡ pieces_word width (by_part is_state celled w.states) (layout (p.leaf l.id))
    first_state l names kinds none = by (is_free wide (p.leaf l.id)) refl
      where
        by : (b : Bool) → is_free wide (p.leaf l.id) ≡ b
            → cond b (joined celled layout (given_words celled w) (p.leaf l.id)) (joined celled layout begin (p.leaf l.id)) ≡ pieces_word width (by_part is_state celled w.states) (layout (p.leaf l.id))
        by true free = given_state w (layout (p.leaf l.id)) kinds
        by false carried =
            begins_given (layout (p.leaf l.id)) (carried_absence wide celled layout c.fits (p.leaf l.id) (placed full p wide l.id h names).state carried none)

    -- each state whose leaf has no init line begins with what is told
    pub open_given : ByIndex (λ i l. init_value wide (p.leaf l.id) ≡ None → state_word wide (joined celled layout begin) (joined celled layout (given_words celled w)) (p.leaf l.id) ≡ told w.states l.sort i 0) 0 (leaves_of is_state full)
    open_given =
        by_index (λ (l : Leaf). (names_full_state full l.id ≡ true) × AllByRecursion (IsOfKind is_state celled) (layout (p.leaf l.id))) (λ i l. pieces_word width (by_part is_state celled w.states) (layout (p.leaf l.id)) ≡ told w.states l.sort i 0)
        (λ i l. init_value wide (p.leaf l.id) ≡ None → state_word wide (joined celled layout begin) (joined celled layout (given_words celled w)) (p.leaf l.id) ≡ told w.states l.sort i 0) 0 (leaves_of is_state full)
        (λ i l known e none. first_state l known.0 known.1 none ∙ e)
        (all_both (λ (l : Leaf). names_full_state full l.id ≡ true) (λ (l : Leaf). AllByRecursion (IsOfKind is_state celled) (layout (p.leaf l.id))) (leaves_of is_state full) (states_named full p wide h) state_pieces) (states_by_words w.states)

    pub first_given : IsFirstGiven full p wide (joined celled layout begin) w (joined celled layout (given_words celled w))
    first_given =
        record {
          states =
              by_index (λ (l : Leaf). names_full_state full l.id ≡ true)
              (λ i l. init_value wide (p.leaf l.id) ≡ None → state_word wide (joined celled layout begin) (joined celled layout (given_words celled w)) (p.leaf l.id) ≡ told w.states l.sort i 0)
              (FirstGiven full p wide w.states (joined celled layout begin) (joined celled layout (given_words celled w))) 0 (leaves_of is_state full)
              (λ i l names e none. e ((placed full p wide l.id h names).no_init none).1) (states_named full p wide h) open_given;
          inputs = inputs_given w;
        }

  rest_given : (ws : List FrameWords) → AllZip (IsLaterGiven full p) ws (map (joined celled layout) (map (given_words celled) ws))
  rest_given [] = tt
  rest_given (w ∷ ws) = (later_given w, rest_given ws)

  -- what the words of a witness give
  pub are_given : (begin : Frame) (ws : List FrameWords) → ((q : ℕ) → init_word celled q ≡ None → begin q ≡ by_part is_state celled (initial_part ws) q)
      → AreGiven full p wide (joined celled layout begin) ws (map (joined celled layout) (map (given_words celled) ws))
  are_given begin [] begins = tt
  are_given begin (w ∷ ws) begins = (first_given w begin begins, rest_given ws)

-- the words that a witness begins with are such
pub begins_with_given : (celled : List Item) (w : Words) (q : ℕ) → init_word celled q ≡ None → initial_words celled w q ≡ by_part is_state celled (initial_part w.frames) q
begins_with_given celled w q e = only_given (given_to is_state celled (initial_part w.frames) q) (init_word celled q) e
