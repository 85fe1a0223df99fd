-- A word more in the open part of a witness over a model.
use Rattle.std.proofs.Common.{◌≡◌, ℕ, ◌<◌, ◌==◌, Bool, true, false, ◌||◌, ◌&&◌, List, [], ◌∷◌, ◌++◌, Ok, All, map, length, length-append, set, refl, sym, ap, subst, ◌∙◌, arith}
use Rattle.std.specs.List.{list_any}
use Rattle.std.proofs.lemmas.Bool.{ne_eqb}
use Rattle.std.proofs.lemmas.List.{map-append}
use Rattle.std.proofs.lemmas.List.Elements.{All-nil, All-cons, All-head, All-tail, All-push}
use Rattle.btor2.specs.declared.item.Item.{Item}
use Rattle.btor2.specs.Items.{is_input}
use Rattle.btor2.specs.Check.{IsWellFormed}
use Rattle.runs.specs.Run.{Run, zeros}
use Rattle.witness.specs.Texts.{Shape, Assignment, widths_of, is_free_index, shape_of, are_distinct, assignment_line}
use Rattle.witness.specs.Admits.{assignment_at}
use Rattle.witness.specs.Fits.{is_set, IsFlagged, PairFits, PartFits, LaterFits, FramesFit, words_put}
use Rattle.witness.specs.Judgements.{FrameWords, pairs_of}
use Rattle.witness.specs.WordPlays.{WordPlay, GoesOn, is_between, Traced, TracedBy, Plays, MayGive, TakesInput, state_given, input_given}
use Rattle.witness.specs.PlainLines.{BeginsAssignment}
use Rattle.witness.proofs.AssignmentLemmas.{IsAssigned, assignment_at-assignment_line, assignment_is_line, may_stand}
use Rattle.witness.proofs.WordFieldLemmas.{flag_of}
use Rattle.witness.proofs.ReadLemmas.{IsSmall, distinct_with}
use Rattle.witness.proofs.FitLemmas.{shape_is_small, flagged_more}
use Rattle.witness.proofs.WordPlayLemmas.{one_ahead, goes_items}
use Rattle.std.proofs.Math.Bool.{and-false}

-- ---- a pair behind others

put_more : (words : List ℕ) (list : List (ℕ × ℕ)) (i x : ℕ) → words_put words (list ++ (i, x) ∷ []) ≡ set (words_put words list) i x
put_more words [] i x = refl
put_more words (p ∷ list) i x = put_more (set words p.0 p.1) list i x

-- ---- words that fit

among : (list : List Assignment) (i : ℕ) → list_any (λ x. x == i) (map (λ (p : ℕ × ℕ). p.0) (pairs_of list)) ≡ list_any (λ a. a.index == i) list
among [] i = refl
among (a ∷ list) i = ap (λ (b : Bool). (a.index == i) || b) (among list i)

pairs_more : (before : List Assignment) (a : Assignment) → pairs_of (before ++ a ∷ []) ≡ pairs_of before ++ (a.index, a.word) ∷ []
pairs_more before a = map-append (λ (b : Assignment). (b.index, b.word)) before (a ∷ [])

part_behind : (widths : List ℕ) (before : List Assignment) (line : List ℕ) (list : List Assignment) → IsAssigned widths before line list → PartFits widths (pairs_of before) → PartFits widths (pairs_of list)
part_behind widths before line list h fits =
    let a = h.assignment in
    let pairs : pairs_of list ≡ pairs_of before ++ (a.index, a.word) ∷ [] = ap pairs_of h.all ∙ pairs_more before a in
    subst (PartFits widths) (sym pairs)
    (record {
      each = All-push (PairFits widths) (pairs_of before) (a.index, a.word) fits.each (record { index = h.valid.index; word = h.valid.word });
      distinct =
          ap are_distinct (map-append (λ (p : ℕ × ℕ). p.0) (pairs_of before) ((a.index, a.word) ∷ []))
          ∙ distinct_with (map (λ (p : ℕ × ℕ). p.0) (pairs_of before)) a.index fits.distinct (among before a.index ∙ h.new);
    })

last_changed : (shape : Shape) (frames : List FrameWords) (here next : FrameWords) → (LaterFits shape here → LaterFits shape next) → All (LaterFits shape) (frames ++ here ∷ []) → All (LaterFits shape) (frames ++ next ∷ [])
last_changed shape [] here next change fit = All-cons (LaterFits shape) next [] (change (All-head (LaterFits shape) here [] fit)) (All-nil (LaterFits shape))
last_changed shape (x ∷ frames) here next change fit =
    All-cons (LaterFits shape) x (frames ++ next ∷ []) (All-head (LaterFits shape) x (frames ++ here ∷ []) fit)
    (last_changed shape frames here next change (All-tail (LaterFits shape) x (frames ++ here ∷ []) fit))

abbrev states_alone : List Assignment → FrameWords
states_alone list = record { states = pairs_of list; inputs = [] }

abbrev Free : List Item → ℕ × ℕ → Type 0
Free items p = is_free_index (shape_of items) p.0 ≡ true

abbrev with_inputs : List (ℕ × ℕ) → List Assignment → FrameWords
with_inputs states list = record { states = states; inputs = pairs_of list }

state_fits : (items : List Item) (frames : List FrameWords) (before : List Assignment) (line : List ℕ) (list : List Assignment) → IsSmall (shape_of items) → MayGive items frames line → assignment_at (shape_of items).states before line ≡ Ok list
    → FramesFit (shape_of items) (frames ++ states_alone before ∷ []) → FramesFit (shape_of items) (frames ++ states_alone list ∷ [])
state_fits items [] before line list small may is fit =
    let h = assignment_is_line (shape_of items).states before line list small.states is in
    (record { states = part_behind (shape_of items).states before line list h fit.0.states; inputs = fit.0.inputs }, fit.1)
state_fits items (x ∷ frames) before line list small may is fit =
    let h = assignment_is_line (shape_of items).states before line list small.states is in (
      fit.0,
      last_changed (shape_of items) frames (states_alone before) (states_alone list)
          (λ (last : LaterFits (shape_of items) (states_alone before)).
          record {
            states = part_behind (shape_of items).states before line list h last.states;
            free =
                subst (All (Free items)) (sym (ap pairs_of h.all ∙ pairs_more before h.assignment))
                (All-push (Free items) (pairs_of before) (h.assignment.index, h.assignment.word) last.free (may_stand (shape_of items) (x ∷ frames) line h.assignment small.states h.spelled h.valid may));
            inputs = last.inputs;
          }) fit.1,
    )

input_fits : (items : List Item) (frames : List FrameWords) (states : List (ℕ × ℕ)) (before : List Assignment) (line : List ℕ) (list : List Assignment) → IsSmall (shape_of items) → assignment_at (shape_of items).inputs before line ≡ Ok list
    → FramesFit (shape_of items) (frames ++ with_inputs states before ∷ []) → FramesFit (shape_of items) (frames ++ with_inputs states list ∷ [])
input_fits items [] states before line list small is fit =
    let h = assignment_is_line (shape_of items).inputs before line list small.inputs is in
    (record { states = fit.0.states; inputs = part_behind (shape_of items).inputs before line list h fit.0.inputs }, fit.1)
input_fits items (x ∷ frames) states before line list small is fit =
    let h = assignment_is_line (shape_of items).inputs before line list small.inputs is in (
      fit.0,
      last_changed (shape_of items) frames (with_inputs states before) (with_inputs states list)
          (λ (last : LaterFits (shape_of items) (with_inputs states before)). record { states = last.states; free = last.free; inputs = part_behind (shape_of items).inputs before line list h last.inputs }) fit.1,
    )

-- ---- a word more

still_traced : (items : List Item) (base : List ℕ) (p q : WordPlay) (frames : List FrameWords) → q.breach ≡ p.breach → q.rose ≡ p.rose → q.differs ≡ p.differs → q.run.settled ≡ false → TracedBy items base p frames → TracedBy items base q frames
still_traced items base p q [] breach rose differs open_frame t = record { states = t.states; breach = breach ∙ t.breach; rose = λ i. ap (λ (l : List Bool). is_set l i) rose ∙ t.rose i }
still_traced items base p q (x ∷ xs) breach rose differs open_frame t = λ fs trace.
    let was : Traced items (x ∷ xs) base p fs = t fs trace in
    record {
      last = was.last;
      is_last = was.is_last;
      now = λ e. absurd (cc (e, open_frame));
      states = was.states;
      carried = was.carried;
      differs = differs ∙ was.differs;
      breach = breach ∙ was.breach;
      rose = λ none clear i h. ap (λ (l : List Bool). is_set l i) rose ∙ was.rose none clear i h;
    }

-- a word is given
one_more : (before list : List Assignment) (a : Assignment) → list ≡ before ++ a ∷ [] → (length (pairs_of list) == 0) ≡ false
one_more before list a all =
    ne_eqb (length (pairs_of list)) 0 (λ e. omega (arith, e, ap (λ (l : List Assignment). length (pairs_of l)) all, ap length (pairs_more before a), length-append (pairs_of before) ((a.index, a.word) ∷ [])))

state_between : (frames : List FrameWords) (before list : List Assignment) (a : Assignment) → list ≡ before ++ a ∷ [] → false ≡ is_between frames (states_alone list)
state_between [] before list a all = refl
state_between (x ∷ frames) before list a all = sym (ap (λ (b : Bool). b && true) (one_more before list a all))

input_between : (frames : List FrameWords) (states : List (ℕ × ℕ)) (before list : List Assignment) (a : Assignment) → list ≡ before ++ a ∷ [] → false ≡ is_between frames (with_inputs states list)
input_between [] states before list a all = refl
input_between (x ∷ frames) states before list a all = sym (ap (λ (b : Bool). (length states == 0) && b) (one_more before list a all) ∙ and-false (length states == 0))

pub state_plays : (items : List Item) (frames : List FrameWords) (before list : List Assignment) (line : List ℕ) (p : WordPlay) (moved : Run) (a : Assignment) → IsWellFormed items → assignment_at (shape_of items).states before line ≡ Ok list
    → list ≡ before ++ a ∷ [] → a.index < length p.states_given → MayGive items frames line → GoesOn p.run.settled p.run moved → Plays items frames (states_alone before) p
    → Plays items frames (states_alone list) (state_given (record p { run = moved }) a.index a.word)
state_plays items frames before list line p moved a w is all inside may goes plays =
    let pairs : pairs_of list ≡ pairs_of before ++ (a.index, a.word) ∷ [] = ap pairs_of all ∙ pairs_more before a in
    let same : moved ≡ plays.ahead = one_ahead p.run.settled p.run moved plays.ahead (subst IsWellFormed (sym plays.run) w) goes plays.goes in
    let next : WordPlay = state_given (record p { run = moved }) a.index a.word in
    record {
      items_are = plays.items_are;
      run = goes_items p.run.settled p.run moved goes ∙ plays.run;
      fit = state_fits items frames before line list (shape_is_small items w) may is plays.fit;
      states_flagged = subst (IsFlagged (set p.states_given a.index true)) (sym pairs) (flagged_more (λ (x : ℕ × ℕ). x.0) p.states_given (pairs_of before) (a.index, a.word) inside plays.states_flagged);
      inputs_flagged = plays.inputs_flagged;
      settled = state_between frames before list a all;
      ahead = next.run;
      goes = refl;
      base = plays.base;
      many = plays.many;
      states = ap (λ (l : List ℕ). set l a.index a.word) (ap (λ (r : Run). r.states) same ∙ plays.states) ∙ (sym (put_more plays.base (pairs_of before) a.index a.word) ∙ ap (words_put plays.base) (sym pairs));
      inputs = ap (λ (r : Run). r.inputs) same ∙ plays.inputs;
      count = plays.count;
      steps = ap (λ (r : Run). r.steps) same ∙ plays.steps;
      traced = still_traced items plays.base p next frames refl refl refl refl plays.traced;
    }

pub input_plays : (items : List Item) (frames : List FrameWords) (states : List (ℕ × ℕ)) (before list : List Assignment) (line : List ℕ) (p : WordPlay) (moved : Run) (a : Assignment) → IsWellFormed items → assignment_at (shape_of items).inputs before line ≡ Ok list
    → list ≡ before ++ a ∷ [] → a.index < length p.inputs_given → GoesOn p.run.settled p.run moved → Plays items frames (with_inputs states before) p → Plays items frames (with_inputs states list) (input_given (record p { run = moved }) a.index a.word)
input_plays items frames states before list line p moved a w is all inside goes plays =
    let pairs : pairs_of list ≡ pairs_of before ++ (a.index, a.word) ∷ [] = ap pairs_of all ∙ pairs_more before a in
    let same : moved ≡ plays.ahead = one_ahead p.run.settled p.run moved plays.ahead (subst IsWellFormed (sym plays.run) w) goes plays.goes in
    let next : WordPlay = input_given (record p { run = moved }) a.index a.word in
    record {
      items_are = plays.items_are;
      run = goes_items p.run.settled p.run moved goes ∙ plays.run;
      fit = input_fits items frames states before line list (shape_is_small items w) is plays.fit;
      states_flagged = plays.states_flagged;
      inputs_flagged = subst (IsFlagged (set p.inputs_given a.index true)) (sym pairs) (flagged_more (λ (x : ℕ × ℕ). x.0) p.inputs_given (pairs_of before) (a.index, a.word) inside plays.inputs_flagged);
      settled = input_between frames states before list a all;
      ahead = next.run;
      goes = refl;
      base = plays.base;
      many = plays.many;
      states = ap (λ (r : Run). r.states) same ∙ plays.states;
      inputs = ap (λ (l : List ℕ). set l a.index a.word) (ap (λ (r : Run). r.inputs) same ∙ plays.inputs) ∙ (sym (put_more (zeros items) (pairs_of before) a.index a.word) ∙ ap (words_put (zeros items)) (sym pairs));
      count = plays.count;
      steps = ap (λ (r : Run). r.steps) same ∙ plays.steps;
      traced = still_traced items plays.base p next frames refl refl refl refl plays.traced;
    }

-- the line of an assignment to an input that has no word
pub input_taken : (p : WordPlay) (moved : Run) (text rest : List ℕ) (index word : ℕ) → IsWellFormed p.items → length p.inputs_given ≡ length (widths_of is_input p.items) → GoesOn p.run.settled p.run moved
    → BeginsAssignment (widths_of is_input p.items) p.inputs_given text index word rest → TakesInput p (input_given (record p { run = moved }) index word) text rest
input_taken p moved text rest index word w many goes begins =
    let widths : List ℕ = widths_of is_input p.items in
    let a : Assignment = record { index = index; word = word; symbol = begins.symbol } in
    let inside : index < length widths = begins.valid.index in
    record {
      assignment = a;
      is = begins.is;
      valid = record { index = inside; word = begins.valid.word; symbol = begins.valid.symbol };
      gives = λ frames states before plays.
          let new : list_any (λ b. b.index == index) before ≡ false = sym (flag_of before index) ∙ (sym (plays.inputs_flagged index) ∙ begins.fresh) in
          let is : assignment_at widths before (assignment_line widths a) ≡ Ok (before ++ a ∷ []) = assignment_at-assignment_line widths before a (shape_is_small p.items w).inputs begins.valid new in
          (before ++ a ∷ [], (is, input_plays p.items frames states before (before ++ a ∷ []) (assignment_line widths a) p moved a w is refl (omega (arith, many, inside)) goes plays));
    }
