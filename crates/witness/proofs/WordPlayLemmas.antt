-- The frames of a witness over a model, played while its lines are read, by a run that moves on from the frame that it is settled in.
use Rattle.std.proofs.Common.{◌≡◌, ℕ, ◌+◌, ◌-◌, ◌^◌, ◌<◌, min, Bool, true, false, cond, List, [], ◌∷◌, Option, Some, None, IfSome, map, is_some, option_map, option_and_then, unwrap_or, slice_get, refl, sym, ap, ap₂, subst, ◌∙◌, suc, ◌*◌, ◌==◌, not, ◌&&◌, ◌||◌, ◌++◌, All, length, get_or, length-append, arith, inl, inr}
use Rattle.base.proofs.StepLemmas.{more_steps-min, more_steps-sum}
use Rattle.btor2.specs.declared.item.Item.{Item}
use Rattle.btor2.specs.Items.{is_state, node_width, next_value, width_of_body, is_bad}
use Rattle.btor2.specs.Lists.{width_at}
use Rattle.btor2.specs.Check.{IsWellFormed}
use Rattle.btor2.specs.Trace.{Frame, SameFrame, next_state, IsFrame, IsTrace}
use Rattle.btor2.proofs.AppendLemmas.{is_some_from}
use Rattle.btor2.proofs.ModelLemmas.{IsNextOf-from_value}
use Rattle.btor2.proofs.TraceLemmas.{frame_exists, frame_unique}
use Rattle.runs.specs.Frames.{ids_of, given_at}
use Rattle.runs.specs.Run.{Run, state_words, leaf_words, zeros, state_count, more_steps, IsNow, first_word, node_count}
use Rattle.witness.specs.WordPlays.{MovesOn, GoesOn, steps_taken, word_at, WordPlay, frame_steps, steps_of, frames_alone, carried_behind, is_between, Fresh, Traced, TracedBy, Plays, nothing_given}
use Rattle.std.specs.Option.{option_or}
use Rattle.std.specs.List.{last_or}
use Rattle.std.proofs.lemmas.Bool.{cases_lt, ne_eqb, eq-eqb}
use Rattle.std.proofs.lemmas.List.{length-map, map-append, get_or_past, get_or-map}
use Rattle.std.proofs.lemmas.List.Elements.{All-nil, All-head, All-tail, All-push, All-get_or}
use Rattle.std.proofs.lemmas.List.Folds.{list_all-append}
use Rattle.witness.specs.Texts.{Shape, shape_of}
use Rattle.witness.specs.Fits.{is_set, FirstFits, LaterFits, FramesFit, StandsAt, RisesIn, RisesAmong, NoneIsSet, never_1, first_violated, breach_from}
use Rattle.btor2.specs.Reachability.{nodes_of}
use Rattle.witness.specs.Judgements.{FrameWords, Violation, violated_at, first_different, initial_words, given_words}
use Rattle.witness.proofs.JudgedLemmas.{breach_more}
use Rattle.witness.proofs.GivenWordLemmas.{words_of_kind, first_stands, later_stands}
use Rattle.witness.proofs.FrameLemmas.{different_of, settled_now}
use Rattle.std.proofs.Math.Bool.{and-true}

-- frames that have one word at each node leave one word to a state
next_same : (items : List Item) (f g : Frame) (id : ℕ) → IsWellFormed items → SameFrame items f g → next_state items f id ≡ next_state items g id
next_same items f g id w same = by (next_value items id) refl
  where
    by : (o : Option ℕ) → next_value items id ≡ o → unwrap_or (option_map f o) 0 ≡ unwrap_or (option_map g o) 0
    by None e = refl
    by (Some v) e = let line = IsNextOf-from_value items id v w e in same v (is_some_from (node_width items v) line.width line.of_value)

map_same : (list : List ℕ) (g h : ℕ → ℕ) → ((k : ℕ) → g k ≡ h k) → map g list ≡ map h list
map_same [] g h same = refl
map_same (x ∷ list) g h same = rw (same x) (ap (λ (l : List ℕ). h x ∷ l) (map_same list g h same))

-- there is a run behind each frame
pub moves : (r : Run) → IsWellFormed r.items → (ahead : Run) × MovesOn r ahead
moves r w =
    let some = frame_exists r.items (state_words r) (leaf_words r) w in
    let states : List ℕ = map (next_state r.items some.0) (ids_of is_state r.items) in (
      record { items = r.items; states = states; inputs = zeros r.items; settled = false; steps = more_steps (state_count r.items) r.steps },
      record {
        states = λ f h. map_same (ids_of is_state r.items) (next_state r.items some.0) (next_state r.items f)
            (λ id. next_same r.items some.0 f id w (frame_unique r.items (state_words r) (state_words r) (leaf_words r) some.0 f w (λ k. refl) some.1 h));
        others = refl;
      },
    )

-- and no other
pub one_ahead : (b : Bool) (r m n : Run) → IsWellFormed r.items → GoesOn b r m → GoesOn b r n → m ≡ n
one_ahead false r m n w g h = g ∙ sym h
one_ahead true r m n w g h =
    let some = frame_exists r.items (state_words r) (leaf_words r) w in
    let same : m.states ≡ n.states = g.states some.0 some.1 ∙ sym (h.states some.0 some.1) in
    g.others
    ∙ (ap (λ (l : List ℕ). record r { states = l; inputs = zeros r.items; settled = false; steps = more_steps (state_count r.items) r.steps }) same
    ∙ sym h.others)

pub goes_items : (b : Bool) (r m : Run) → GoesOn b r m → m.items ≡ r.items
goes_items false r m g = ap (λ (x : Run). x.items) g
goes_items true r m g = ap (λ (x : Run). x.items) g.others

-- its steps
pub goes_steps : (items : List Item) (r m : Run) → r.items ≡ items → GoesOn r.settled r m → m.steps ≡ steps_taken items r
goes_steps items r m e g = by r.settled g
  where
    by : (b : Bool) → GoesOn b r m → m.steps ≡ cond b (more_steps (state_count items) r.steps) r.steps
    by false h = ap (λ (x : Run). x.steps) h
    by true h = ap (λ (x : Run). x.steps) h.others ∙ ap (λ (l : List Item). more_steps (state_count l) r.steps) e

pub steps_on : (items : List Item) (r : Run) (n count steps : ℕ) → r.settled ≡ true → n ≡ state_count items → count ≡ r.steps → count < 2 ^ 128 → steps ≡ min (count + n) (2 ^ 128 - 1) → steps ≡ steps_taken items r
steps_on items r n count steps done many same fits is =
    is ∙ (sym (more_steps-min n count fits) ∙ (ap₂ more_steps many same ∙ sym (ap (λ (b : Bool). cond b (more_steps (state_count items) r.steps) r.steps) done)))

-- ---- the word of a node

pub some_word : (items : List Item) (r : Run) (f : Frame) (node word : ℕ) → r.settled ≡ true → r.items ≡ items → is_some (width_at items node) ≡ true → IfSome (slice_get r.items node) (λ x. word ≡ f x.id)
    → Some word ≡ cond r.settled (word_at items f node) None
some_word items r f node word done same wide says =
    by (slice_get items node) wide (subst (λ (l : List Item). IfSome (slice_get l node) (λ x. word ≡ f x.id)) same says)
    ∙ (sym (ap (λ (b : Bool). cond b (option_map (λ (x : Item). f x.id) (slice_get items node)) None) wide) ∙ sym (ap (λ (b : Bool). cond b (word_at items f node) None) done))
  where
    by : (o : Option Item) → is_some (option_and_then (λ (x : Item). width_of_body items x.body) o) ≡ true → IfSome o (λ x. word ≡ f x.id) → Some word ≡ option_map (λ (x : Item). f x.id) o
    by None h s = absurd cc
    by (Some x) h s = ap (λ (n : ℕ). Some n) s

-- ---- what parts give

pub none_behind : (list : List ℕ) (open_part : ℕ) → All (λ n. n < open_part) list → NoneIsSet (map (λ n. n == open_part) list)
none_behind list open_part before i =
    elim (cases_lt i (length list)) [
      | inl below ↦ get_or-map (λ (n : ℕ). n == open_part) list i 0 false below ∙ ne_eqb (get_or list i 0) open_part (λ e. omega (arith, e, All-get_or (λ n. n < open_part) list i 0 below before))
      | inr above ↦ get_or_past (map (λ (n : ℕ). n == open_part) list) i false (omega (arith, above, length-map list (λ (n : ℕ). n == open_part)))
    ]

-- ---- a frame behind others

record SplitTrace (items : List Item) (carried : Frame) (inputs : List Frame) (last : Frame) (fs : List Frame) : Type 0 where
  front : List Frame
  f : Frame
  is : fs ≡ front ++ f ∷ []
  trace : IsTrace items carried inputs front
  frame : IsFrame items (carried_behind items carried front) last f
  many : length front ≡ length inputs

-- the last frame of a trace, and those before
split_trace : (items : List Item) (carried : Frame) (inputs : List Frame) (last : Frame) (fs : List Frame) → IsTrace items carried (inputs ++ last ∷ []) fs → SplitTrace items carried inputs last fs
split_trace items carried [] last [] t = absurd t
split_trace items carried [] last (f ∷ []) t = record { front = []; f = f; is = refl; trace = tt; frame = t.0; many = refl }
split_trace items carried [] last (f ∷ g ∷ fs) t = absurd t.1
split_trace items carried (input ∷ inputs) last [] t = absurd t
split_trace items carried (input ∷ inputs) last (f ∷ fs) t =
    let rest = split_trace items (next_state items f) inputs last fs t.1 in
    record { front = f ∷ rest.front; f = rest.f; is = ap (λ (gs : List Frame). f ∷ gs) rest.is; trace = (t.0, rest.trace); frame = rest.frame; many = ap suc rest.many }

carried_more : (items : List Item) (carried : Frame) (fs : List Frame) (f : Frame) → carried_behind items carried (fs ++ f ∷ []) ≡ next_state items f
carried_more items carried [] f = refl
carried_more items carried (g ∷ fs) f = carried_more items (next_state items g) fs f

never_more : (fs : List Frame) (f : Frame) (a : ℕ) → never_1 (fs ++ f ∷ []) a ≡ (never_1 fs a && not (f a == 1))
never_more fs f a = list_all-append (λ (g : Frame). not (g a == 1)) fs (f ∷ []) ∙ ap (λ (b : Bool). never_1 fs a && b) (and-true (not (f a == 1)))

rises_behind : (nodes : List ℕ) (fs : List Frame) (f : Frame) (none rose after : List Bool) → RisesAmong nodes fs none rose → RisesIn nodes f rose after → RisesAmong nodes (fs ++ f ∷ []) none after
rises_behind nodes fs f none rose after was one i h =
    one i h
    ∙ (ap (λ (b : Bool). b || (f (get_or nodes i 0) == 1)) (was i h)
    ∙ (or_cases (is_set none i) (never_1 fs (get_or nodes i 0)) (f (get_or nodes i 0) == 1) ∙ ap (λ (b : Bool). is_set none i || not b) (sym (never_more fs f (get_or nodes i 0)))))
  where
    or_cases : (b n r : Bool) → ((b || not n) || r) ≡ (b || not (n && not r))
    or_cases true n r = refl
    or_cases false false r = refl
    or_cases false true true = refl
    or_cases false true false = refl

-- ---- where the run stands

-- before the first frame
start_stands : (items : List Item) (here : FrameWords) (base : List ℕ) → base ≡ map (first_word items) (ids_of is_state items) → StandsAt items (initial_words items (frames_alone (here ∷ []))) here (given_at is_state items base)
start_stands items here base is =
    first_stands items here (given_at is_state items base) (λ id y found kind. ap (λ (l : List ℕ). given_at is_state items l id) is ∙ words_of_kind is_state items (first_word items) id y found kind)

-- before a later one
later_stands_at : (items : List Item) (last : Frame) (here : FrameWords) (base : List ℕ) → LaterFits (shape_of items) here → base ≡ map (next_state items last) (ids_of is_state items)
    → StandsAt items (next_state items last) here (given_at is_state items base)
later_stands_at items last here base fits is =
    later_stands items last (given_at is_state items base) here fits
    (λ id y found kind. ap (λ (l : List ℕ). given_at is_state items l id) is ∙ words_of_kind is_state items (next_state items last) id y found kind)

-- ---- words that fit

later_last : (shape : Shape) (frames : List FrameWords) (here : FrameWords) → All (LaterFits shape) (frames ++ here ∷ []) → LaterFits shape here
later_last shape [] here fit = All-head (LaterFits shape) here [] fit
later_last shape (x ∷ frames) here fit = later_last shape frames here (All-tail (LaterFits shape) x (frames ++ here ∷ []) fit)

last_fits : (shape : Shape) (frames : List FrameWords) (here : FrameWords) → FramesFit shape (frames ++ here ∷ []) → FirstFits shape here
last_fits shape [] here fit = fit.0
last_fits shape (x ∷ frames) here fit =
    let last = later_last shape frames here fit.1 in
    record { states = last.states; inputs = last.inputs }

nothing_fits : (shape : Shape) → LaterFits shape nothing_given
nothing_fits shape =
    record {
      states = record { each = All-nil _; distinct = refl };
      free = All-nil _;
      inputs = record { each = All-nil _; distinct = refl };
    }

fits_more : (shape : Shape) (frames : List FrameWords) (here : FrameWords) → FramesFit shape (frames ++ here ∷ []) → FramesFit shape ((frames ++ here ∷ []) ++ nothing_given ∷ [])
fits_more shape [] here fit = (fit.0, All-push (LaterFits shape) [] nothing_given fit.1 (nothing_fits shape))
fits_more shape (x ∷ frames) here fit = (fit.0, All-push (LaterFits shape) (frames ++ here ∷ []) nothing_given fit.1 (nothing_fits shape))

-- ---- a frame is closed

-- what is kept once a frame is closed, by the run that was settled in it
pub record Closes (items : List Item) (settled : Run) (old new : WordPlay) : Type 0 where
  pub same : new.items ≡ items
  pub differs : (f : Frame) → IsNow settled f → new.differs ≡ cond (old.frames == 0) (first_different items f) old.differs
  pub frames : new.frames ≡ min (old.frames + 1) (2 ^ 64 - 2)
  pub run : new.run ≡ settled
  pub breach : (f : Frame) → IsNow settled f → new.breach ≡ option_or old.breach (violated_at old.frames (first_violated items f) None)
  pub rose : (f : Frame) → IsNow settled f → RisesIn (nodes_of is_bad items) f old.rose new.rose
  pub states_clear : NoneIsSet new.states_given
  pub inputs_clear : NoneIsSet new.inputs_given

last_behind : (fs : List Frame) (f : Frame) → last_or None (fs ++ f ∷ []) ≡ Some f
last_behind [] f = refl
last_behind (g ∷ []) f = refl
last_behind (g ∷ h ∷ fs) f = last_behind (h ∷ fs) f

pub between_behind : (frames : List FrameWords) (here : FrameWords) → is_between (frames ++ here ∷ []) nothing_given ≡ true
between_behind [] here = refl
between_behind (x ∷ frames) here = refl

-- A run moves on where it has to, and is settled in the open frame.
module _ (items : List Item) (here : FrameWords) (old new : WordPlay) (before settled : Run) (w : IsWellFormed items) (goes : GoesOn old.run.settled old.run before)
    (done : settled ≡ record before { settled = true; steps = more_steps (node_count before.items) before.steps }) (closes : Closes items settled old new) where
  -- the run that moved on is the one of the open frame
  before_is : (frames : List FrameWords) (plays : Plays items frames here old) → before ≡ plays.ahead
  before_is frames plays = one_ahead old.run.settled old.run before plays.ahead (subst IsWellFormed (sym plays.run) w) goes plays.goes

  before_items : (frames : List FrameWords) (plays : Plays items frames here old) → before.items ≡ items
  before_items frames plays = goes_items old.run.settled old.run before goes ∙ plays.run

  settled_items : (frames : List FrameWords) (plays : Plays items frames here old) → settled.items ≡ items
  settled_items frames plays = ap (λ (r : Run). r.items) done ∙ before_items frames plays

  now_in : (frames : List FrameWords) (plays : Plays items frames here old) (carried f : Frame) → StandsAt items carried here (given_at is_state items plays.base) → IsFrame items carried (given_words items here) f → IsNow settled f
  now_in frames plays carried f stands h =
      let same = before_is frames plays in
      settled_now items settled plays.base here w plays.many (last_fits (shape_of items) frames here plays.fit) (settled_items frames plays)
      (ap (λ (r : Run). r.states) done ∙ (ap (λ (r : Run). r.states) same ∙ plays.states)) (ap (λ (r : Run). r.inputs) done ∙ (ap (λ (r : Run). r.inputs) same ∙ plays.inputs)) carried f stands h

  -- the run behind the frame
  behind : (frames : List FrameWords) (plays : Plays items frames here old) → (ahead : Run) × MovesOn settled ahead
  behind frames plays = moves settled (subst IsWellFormed (sym (settled_items frames plays)) w)

  states_behind : (frames : List FrameWords) (plays : Plays items frames here old) (f : Frame) → IsNow settled f → (behind frames plays).0.states ≡ map (next_state items f) (ids_of is_state items)
  states_behind frames plays f h =
      (behind frames plays).1.states f h ∙ ap (λ (l : List Item). map (next_state l f) (ids_of is_state l)) (settled_items frames plays)

  steps_more : (frames : List FrameWords) (plays : Plays items frames here old) → (behind frames plays).0.steps ≡ steps_of items (length (frames ++ here ∷ []))
  steps_more frames plays =
      let n = length frames in
      let long : length (frames ++ here ∷ []) ≡ n + 1 = length-append frames (here ∷ []) in
      let steps : before.steps ≡ steps_of items n = ap (λ (r : Run). r.steps) (before_is frames plays) ∙ plays.steps in
      ap (λ (r : Run). r.steps) (behind frames plays).1.others
      ∙ (ap₂ (λ (l : List Item) (s : ℕ). more_steps (state_count l) s) (settled_items frames plays) (ap (λ (r : Run). r.steps) done)
      ∙ (ap₂ (λ (l : List Item) (s : ℕ). more_steps (state_count items) (more_steps (node_count l) s)) (before_items frames plays) steps
      ∙ (ap (λ (s : ℕ). more_steps (state_count items) s) (more_steps-sum (n * frame_steps items) (node_count items) 0)
      ∙ (more_steps-sum (n * frame_steps items + node_count items) (state_count items) 0
      ∙ ap (λ (m : ℕ). more_steps m 0) (product n (node_count items) (state_count items) ∙ ap (λ (m : ℕ). m * frame_steps items) (sym long))))))
    where
      product : (n s l : ℕ) → n * (s + l) + s + l ≡ (n + 1) * (s + l)
      product n s l = omega arith

  run_now : (f : Frame) → IsNow settled f → IsNow new.run f
  run_now f now = subst (λ (r : Run). IsNow r f) (sym closes.run) now

  first_closed : (plays : Plays items [] here old) → TracedBy items (behind [] plays).0.states new (here ∷ [])
  first_closed plays [] t = absurd t
  first_closed plays (f ∷ g ∷ fs) t = absurd t.1
  first_closed plays (f ∷ []) t =
      let carried = initial_words items (frames_alone (here ∷ [])) in
      let fresh : Fresh items plays.base old = plays.traced in
      let first : (old.frames == 0) ≡ true = eq-eqb old.frames 0 plays.count in
      let now = now_in [] plays carried f (start_stands items here plays.base fresh.states) t.0 in
      record {
        last = f;
        is_last = refl;
        now = λ _. run_now f now;
        states = states_behind [] plays f now;
        carried = refl;
        differs = closes.differs f now ∙ (ap (λ (b : Bool). cond b (first_different items f) old.differs) first ∙ different_of items carried (given_words items here) f t.0);
        breach = closes.breach f now ∙ ap₂ (λ (o : Option Violation) (n : ℕ). option_or o (violated_at n (first_violated items f) None)) fresh.breach plays.count;
        rose = λ none clear. rises_behind (nodes_of is_bad items) [] f none old.rose new.rose (λ i h. fresh.rose i ∙ sym (ap (λ (b : Bool). b || false) (clear i))) (closes.rose f now);
      }

  later_closed : (x : FrameWords) (xs : List FrameWords) (plays : Plays items (x ∷ xs) here old) → TracedBy items (behind (x ∷ xs) plays).0.states new (x ∷ (xs ++ here ∷ []))
  later_closed x xs plays fs t =
      let carried = initial_words items (frames_alone (x ∷ xs)) in
      let s = split_trace items carried (map (given_words items) (x ∷ xs)) (given_words items here) fs (subst (λ (l : List Frame). IsTrace items carried l fs) (map-append (given_words items) (x ∷ xs) (here ∷ [])) t) in
      let was : Traced items (x ∷ xs) plays.base old s.front = plays.traced s.front s.trace in
      let fits = later_last (shape_of items) xs here plays.fit.1 in
      let frame = subst (λ (c : Frame). IsFrame items c (given_words items here) s.f) was.carried s.frame in
      let now = now_in (x ∷ xs) plays (next_state items was.last) s.f (later_stands_at items was.last here plays.base fits was.states) frame in
      let count = plays.count in
      let later : (old.frames == 0) ≡ false = ne_eqb old.frames 0 (λ e. omega (arith, count, e)) in
      let number : old.frames ≡ 0 + length s.front = count ∙ (sym (length-map (x ∷ xs) (given_words items)) ∙ (sym s.many ∙ omega arith)) in
      record {
        last = s.f;
        is_last = ap (last_or None) s.is ∙ last_behind s.front s.f;
        now = λ _. run_now s.f now;
        states = states_behind (x ∷ xs) plays s.f now;
        carried = ap (carried_behind items carried) s.is ∙ carried_more items carried s.front s.f;
        differs = closes.differs s.f now ∙ (ap (λ (b : Bool). cond b (first_different items s.f) old.differs) later ∙ was.differs);
        breach =
            closes.breach s.f now
            ∙ (ap₂ (λ (o : Option Violation) (n : ℕ). option_or o (violated_at n (first_violated items s.f) None)) was.breach number
            ∙ (sym (breach_more (first_violated items) 0 s.front s.f) ∙ ap (breach_from (first_violated items) 0) (sym s.is)));
        rose = λ none clear.
            subst (λ (l : List Frame). RisesAmong (nodes_of is_bad items) l none new.rose) (sym s.is)
            (rises_behind (nodes_of is_bad items) s.front s.f none old.rose new.rose (was.rose none clear) (closes.rose s.f now));
      }

  closed_by : (frames : List FrameWords) (plays : Plays items frames here old) → TracedBy items (behind frames plays).0.states new (frames ++ here ∷ [])
  closed_by [] plays = first_closed plays
  closed_by (x ∷ xs) plays = later_closed x xs plays

  -- a frame more is closed
  pub plays_more : (frames : List FrameWords) → Plays items frames here old → length frames < 2 ^ 62 → Plays items (frames ++ here ∷ []) nothing_given new
  plays_more frames plays few =
      let count = plays.count in
      let long = length-append frames (here ∷ []) in
      let next = behind frames plays in
      let is_settled : new.run.settled ≡ true = ap (λ (r : Run). r.settled) closes.run ∙ ap (λ (r : Run). r.settled) done in
      let some = frame_exists settled.items (state_words settled) (leaf_words settled) (subst IsWellFormed (sym (settled_items frames plays)) w) in
      record {
        items_are = closes.same;
        run = ap (λ (r : Run). r.items) closes.run ∙ settled_items frames plays;
        fit = fits_more (shape_of items) frames here plays.fit;
        states_flagged = closes.states_clear;
        inputs_flagged = closes.inputs_clear;
        settled = is_settled ∙ sym (between_behind frames here);
        ahead = next.0;
        goes = subst (λ (b : Bool). GoesOn b new.run next.0) (sym is_settled) (subst (λ (r : Run). MovesOn r next.0) (sym closes.run) next.1);
        base = next.0.states;
        many = ap length (states_behind frames plays some.0 some.1) ∙ length-map (ids_of is_state items) (next_state items some.0);
        states = refl;
        inputs = ap (λ (r : Run). r.inputs) next.1.others ∙ ap zeros (settled_items frames plays);
        count = closes.frames ∙ omega (arith, count, few, long);
        steps = steps_more frames plays;
        traced = closed_by frames plays;
      }

-- ---- the word of a node in the frame that was closed last

pub word_is : (items : List Item) (frames : List FrameWords) (here : FrameWords) (p : WordPlay) (fs : List Frame) (node : ℕ) (o : Option ℕ) → Plays items frames here p → IsTrace items (initial_words items (frames_alone frames)) (map (given_words items) frames) fs
    → ((f : Frame) → (p.run.settled ≡ true → IsNow p.run f) → o ≡ cond p.run.settled (word_at p.items f node) None)
    → o ≡ cond (is_between frames here) (option_and_then (λ f. word_at items f node) (last_or None fs)) None
word_is items [] here p fs node o plays trace says =
    let none : p.run.settled ≡ false = plays.settled in
    says (λ id. 0) (λ e. absurd (cc (none, e))) ∙ ap (λ (b : Bool). cond b (word_at p.items (λ id. 0) node) None) none
word_is items (x ∷ xs) here p fs node o plays trace says =
    let t : Traced items (x ∷ xs) plays.base p fs = plays.traced fs trace in
    says t.last t.now
    ∙ (ap₂ (λ (b : Bool) (l : List Item). cond b (word_at l t.last node) None) plays.settled plays.items_are
    ∙ ap (λ (l : Option Frame). cond (is_between (x ∷ xs) here) (option_and_then (λ f. word_at items f node) l) None) (sym t.is_last))
