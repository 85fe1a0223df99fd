-- A trace of the list that a model is written out as, from a run of the model.
use Rattle.std.proofs.Common.{◌≡◌, ℕ, Bool, true, false, cond, List, [], ◌∷◌, map, length, Option, Some, None, is_some, is_none, option_and_then, ◌&&◌, refl, sym, ap, ap₂, subst, ◌∙◌, ⊎_elim}
use Rattle.std.specs.List.{AllByRecursion, AllZip}
use Rattle.std.proofs.lemmas.List.{length-map}
use Rattle.std.proofs.lemmas.Option.{none-some}
use Rattle.base.specs.Shown.{rises_within}
use Rattle.btor2.specs.declared.item.Item.{Item}
use Rattle.btor2.specs.declared.item.Body.{Body}
use Rattle.btor2.specs.declared.item.Body.TheVariants as body
use Rattle.btor2.specs.Items.{is_bad, is_constraint, is_state, is_free, names_state, constant_of, init_value, next_value}
use Rattle.btor2.specs.Trace.{Frame, LineHolds, IsFrame, InitHolds, next_state, IsTrace, IsInput, IsInitial}
use Rattle.btor2.specs.Reachability.{model_shows, CanRise}
use Rattle.btor2.proofs.IdLemmas.{state_item}
use Rattle.wide.specs.WideModels.{greatest_width}
use Rattle.full.specs.Lines.{Operand, FullLine, sort_of_node, init_of, next_of}
use Rattle.full.specs.Agreement.{names_full_state}
use Rattle.full.specs.Runs.{SameAtNodes, operand_word, first_word, IsFullFrame, Begins, Follows, FollowEach, IsRun, full_shows, CanRiseFull}
use Rattle.full.specs.WrittenOut.{BeginsAs, Places, read_by, leaf_words, started, IsNoOther, IsAsItIs, IsByFirstWord, InitIsWritten, NextIsWritten, IsWrittenOut}
use Rattle.full.proofs.ListLemmas.{all_with, all_both, all_at}
use Rattle.full.proofs.FullLookUps.{init_said, next_said, init_nodes, next_nodes}
use Rattle.full.proofs.FullFrames.{same_operand, first_word_same, values_same}
use Rattle.full.proofs.WideLemmas.{put_own, init_lines, IsInitLine}
use Rattle.full.proofs.PlaceLemmas.{placed, first_stands, first_is_left}
use Rattle.full.proofs.UpLemmas.{next_word, shown, shows_alike}
use Rattle.full.proofs.DownLemmas.{input_fits, leaf_value, state_below, IsMadeBy, later_frame, first_frame}

-- ---- a frame goes by the words of the states that are carried

abbrev StateSame : List Item → Frame → Frame → ℕ → Body → Type 0
StateSame wide s t id (body.State k) = is_free wide id ≡ false → s id ≡ t id
StateSame wide s t id _ = Unit {0}

line_by_state : (wide : List Item) (s t input g : Frame) (id : ℕ) (b : Body) → StateSame wide s t id b → LineHolds wide s input g id b → LineHolds wide t input g id b
line_by_state wide s t input g id (body.State k) same h = by (is_free wide id) same h
  where
    by : (b : Bool) → (b ≡ false → s id ≡ t id) → g id ≡ cond b (input id) (s id) → g id ≡ cond b (input id) (t id)
    by true same h = h
    by false same h = h ∙ same refl
line_by_state wide s t input g id _ same h = h

frame_by_states : (wide : List Item) (s t input g : Frame) → AllByRecursion (λ (x : Item). StateSame wide s t x.id x.body) wide → IsFrame wide s input g → IsFrame wide t input g
frame_by_states wide s t input g same h =
    all_with (λ (x : Item). StateSame wide s t x.id x.body × LineHolds wide s input g x.id x.body) (λ (x : Item). LineHolds wide t input g x.id x.body) wide (λ x both. line_by_state wide s t input g x.id x.body both.0 both.1)
    (all_both (λ (x : Item). StateSame wide s t x.id x.body) (λ (x : Item). LineHolds wide s input g x.id x.body) wide same h)

-- ---- the state that a frame leaves

-- a state with neither an init line nor a next line is free
free_by : (wide : List Item) (w : ℕ) → init_value wide w ≡ None → next_value wide w ≡ None → is_free wide w ≡ true
free_by wide w init next = ap₂ (λ (o n : Option ℕ). is_none o && is_none n) init next

true-not-false : true ≡ false → ⊥
true-not-false e = absurd (cc)

-- what the value of a next line has in a frame of the wide list
next_made : (full : List FullLine) (p : Places) (wide : List Item) (f g : Frame) (bit id : ℕ) (o : Operand) → IsMadeBy full p wide f bit g → NextIsWritten full p wide id o → is_some (sort_of_node full o.id) ≡ true
    → next_state wide g (p.leaf id) ≡ operand_word full f o
next_made full p wide f g bit id o k is node =
    next_word wide g (p.leaf id) (Some is.0) is.1 ∙ is.2 (started p.first (leaf_words p wide f) bit) (leaf_words p wide f) g k.fits.state_fits k.fits.input_fits k.fits.frame ∙ same_operand full (read_by p g) f o (k.same o.id node)

left_is : (full : List FullLine) (p : Places) (wide : List Item) (f g f' : Frame) (bit id : ℕ) → IsWrittenOut full p wide → IsMadeBy full p wide f bit g → Follows full f f' → IsFullFrame full f' → names_full_state full id ≡ true
    → is_free wide (p.leaf id) ≡ false → started p.first (leaf_words p wide f') 0 (p.leaf id) ≡ next_state wide g (p.leaf id)
left_is full p wide f g f' bit id h k follows frame names carried = by (next_of full id) refl
  where
    open_one : next_of full id ≡ None → init_value wide (p.leaf id) ≡ None → started p.first (leaf_words p wide f') 0 (p.leaf id) ≡ next_state wide g (p.leaf id)
    open_one e none = absurd (true-not-false (sym (free_by wide (p.leaf id) none ((placed full p wide id h names).no_next e)) ∙ carried))

    lacks_next : next_of full id ≡ None → (o : Option Operand) → init_of full id ≡ o → started p.first (leaf_words p wide f') 0 (p.leaf id) ≡ next_state wide g (p.leaf id)
    lacks_next e None i = open_one e ((placed full p wide id h names).no_init i).1
    lacks_next e (Some o) i =
        ⊎_elim (λ (same : IsAsItIs full p wide id o). absurd (true-not-false (sym same.goes_on ∙ ap is_some ((placed full p wide id h names).no_next e)))) (λ (choice : IsByFirstWord full p wide id o). open_one e choice.begins_open)
        (init_said (InitIsWritten full p wide) full id o h.inits i)

    by : (o : Option Operand) → next_of full id ≡ o → started p.first (leaf_words p wide f') 0 (p.leaf id) ≡ next_state wide g (p.leaf id)
    by None e = lacks_next e (init_of full id) refl
    by (Some o) e =
        leaf_value full p wide f' 0 id h names (state_below full f' id names frame) ∙ next_said (λ t o. f' t ≡ operand_word full f o) full id o follows e
        ∙ sym (next_made full p wide f g bit id o k (next_said (NextIsWritten full p wide) full id o h.nexts e) (next_said (λ t o. is_some (sort_of_node full o.id) ≡ true) full id o (next_nodes full h.agrees) e))

first_left : (full : List FullLine) (p : Places) (wide : List Item) (f' g state input : Frame) (w : ℕ) → IsWrittenOut full p wide → IsFrame wide state input g → p.first ≡ Some w
    → started p.first (leaf_words p wide f') 0 w ≡ next_state wide g w
first_left full p wide f' g state input w h frame e =
    ap (λ (o : Option ℕ). started o (leaf_words p wide f') 0 w) e ∙ put_own (leaf_words p wide f') w 0 ∙ sym (first_is_left full p wide w state input g (first_stands full p wide w h e) frame)

state_goes_on : (full : List FullLine) (p : Places) (wide : List Item) (f g f' : Frame) (bit w : ℕ) (b : Body) → IsWrittenOut full p wide → IsMadeBy full p wide f bit g → Follows full f f' → IsFullFrame full f' → IsNoOther full p w b
    → StateSame wide (started p.first (leaf_words p wide f') 0) (next_state wide g) w b
state_goes_on full p wide f g f' bit w (body.State s) h k follows frame is = λ carried.
    ⊎_elim (λ first. first_left full p wide f' g (started p.first (leaf_words p wide f) bit) (leaf_words p wide f) w h k.fits.frame first)
    (λ other. subst (λ (v : ℕ). started p.first (leaf_words p wide f') 0 v ≡ next_state wide g v) other.1
    (left_is full p wide f g f' bit (p.source w) h k follows frame other.0 (ap (is_free wide) other.1 ∙ carried))) is
state_goes_on full p wide f g f' bit w _ h k follows frame is = tt

-- ---- frames behind the first

made_shows : (full : List FullLine) (p : Places) (wide : List Item) (f g : Frame) (bit : ℕ) → IsWrittenOut full p wide → IsMadeBy full p wide f bit g → model_shows wide g ≡ full_shows full f
made_shows full p wide f g bit h k =
    sym (shows_alike full p wide (started p.first (leaf_words p wide f) bit) (leaf_words p wide f) g h k.fits)
    ∙ ap₂ shown (values_same full (read_by p g) f is_bad h.agrees k.same) (values_same full (read_by p g) f is_constraint h.agrees k.same)

-- a trace of the wide list from a state, of the words of the leaves in some frames, that shows what they show
pub record Traces (full : List FullLine) (p : Places) (wide : List Item) (state : Frame) (fs : List Frame) : Type 0 where
  pub frames : List Frame
  pub is_trace : IsTrace wide state (map (leaf_words p wide) fs) frames
  pub same : map (model_shows wide) frames ≡ map (full_shows full) fs
  pub words : AllZip (λ g f. SameAtNodes full (read_by p g) f) frames fs

traces_on : (full : List FullLine) (p : Places) (wide : List Item) (f g : Frame) (bit : ℕ) (fs : List Frame) → IsWrittenOut full p wide → IsMadeBy full p wide f bit g → AllByRecursion (IsFullFrame full) fs → FollowEach full f fs
    → Traces full p wide (next_state wide g) fs
traces_on full p wide f g bit [] h k all each = record { frames = []; is_trace = tt; same = refl; words = tt }
traces_on full p wide f g bit (f' ∷ fs) h k all each =
    let made = later_frame full p wide f' h all.0 in
    let states = all_with (λ (x : Item). IsNoOther full p x.id x.body) (λ (x : Item). StateSame wide (started p.first (leaf_words p wide f') 0) (next_state wide g) x.id x.body) wide
    (λ x is. state_goes_on full p wide f g f' bit x.id x.body h k each.0 all.0 is) h.no_others in
    let frame = frame_by_states wide (started p.first (leaf_words p wide f') 0) (next_state wide g) (leaf_words p wide f') made.0 states made.1.fits.frame in
    let rest = traces_on full p wide f' made.0 0 fs h made.1 all.1 each.1 in
    record { frames = made.0 ∷ rest.frames; is_trace = (frame, rest.is_trace); same = ap₂ ◌∷◌ (made_shows full p wide f' made.0 0 h made.1) rest.same; words = (made.1.same, rest.words) }

-- ---- the first frame

init_of_state : (full : List FullLine) (p : Places) (wide : List Item) (f g : Frame) (w v id : ℕ) → IsWrittenOut full p wide → IsMadeBy full p wide f 1 g → IsFullFrame full f → Begins full f → names_full_state full id ≡ true
    → init_value wide (p.leaf id) ≡ Some v → constant_of wide v ≡ Some (started p.first (leaf_words p wide f) 1 (p.leaf id))
init_of_state full p wide f g w v id h k frame begin names e = by (init_of full id) refl
  where
    none : init_value wide (p.leaf id) ≡ None → constant_of wide v ≡ Some (started p.first (leaf_words p wide f) 1 (p.leaf id))
    none n = absurd (none-some v (sym n ∙ e))

    as_it_is : (o : Operand) → init_of full id ≡ Some o → IsAsItIs full p wide id o → constant_of wide v ≡ Some (started p.first (leaf_words p wide f) 1 (p.leaf id))
    as_it_is o i same =
        let word : constant_of wide v ≡ Some same.word = sym (ap (option_and_then (constant_of wide)) e) ∙ same.begins in
        let node = init_said (λ t o. is_some (sort_of_node full o.id) ≡ true) full id o (init_nodes full h.agrees) i in
        let says : f id ≡ first_word full f id o = init_said (λ t o. f t ≡ first_word full f t o) full id o begin i in
        let constant : first_word full (read_by p g) id o ≡ same.word = same.constant (started p.first (leaf_words p wide f) 1) (leaf_words p wide f) g k.fits.state_fits k.fits.input_fits k.fits.frame in
        let begins : same.word ≡ f id = sym constant ∙ first_word_same full (read_by p g) f id o (k.same o.id node) ∙ sym says in
        word ∙ ap (λ (n : ℕ). Some n) (begins ∙ sym (leaf_value full p wide f 1 id h names (state_below full f id names frame)))

    by : (o : Option Operand) → init_of full id ≡ o → constant_of wide v ≡ Some (started p.first (leaf_words p wide f) 1 (p.leaf id))
    by None i = none ((placed full p wide id h names).no_init i).1
    by (Some o) i = ⊎_elim (λ (same : IsAsItIs full p wide id o). as_it_is o i same) (λ (choice : IsByFirstWord full p wide id o). none choice.begins_open) (init_said (InitIsWritten full p wide) full id o h.inits i)

init_of_first : (full : List FullLine) (p : Places) (wide : List Item) (f : Frame) (w v : ℕ) → IsWrittenOut full p wide → p.first ≡ Some w → init_value wide w ≡ Some v
    → constant_of wide v ≡ Some (started p.first (leaf_words p wide f) 1 w)
init_of_first full p wide f w v h is e =
    sym (ap (option_and_then (constant_of wide)) e) ∙ (first_stands full p wide w h is).begins ∙ ap (λ (n : ℕ). Some n) (sym (ap (λ (o : Option ℕ). started o (leaf_words p wide f) 1 w) is ∙ put_own (leaf_words p wide f) w 1))

no_other_at : (full : List FullLine) (p : Places) (wide : List Item) (w : ℕ) → IsWrittenOut full p wide → names_state wide w ≡ true → (s : ℕ) × IsNoOther full p w (body.State s)
no_other_at full p wide w h names =
    let found = state_item wide w names in
    let x : Item = found.0 in
    let is = all_at (λ (y : Item). IsNoOther full p y.id y.body) found.1.before found.1.after x (subst (AllByRecursion (λ (y : Item). IsNoOther full p y.id y.body)) found.1.splits h.no_others) in
    by x.body found.3 (subst (λ (k : ℕ). IsNoOther full p k x.body) (sym found.2) is)
  where
    by : (b : Body) → is_state b ≡ true → IsNoOther full p w b → (s : ℕ) × IsNoOther full p w (body.State s)
    by (body.State s) e is = (s, is)
    by _ e is = absurd (cc)

init_holds : (full : List FullLine) (p : Places) (wide : List Item) (f g : Frame) (b : Body) → IsWrittenOut full p wide → IsMadeBy full p wide f 1 g → IsFullFrame full f → Begins full f → IsInitLine wide b
    → InitHolds wide (started p.first (leaf_words p wide f) 1) b
init_holds full p wide f g (body.Init s t v) h k frame begin line =
    ⊎_elim (λ first. init_of_first full p wide f t v h first line.1)
    (λ other. subst (λ (w : ℕ). constant_of wide v ≡ Some (started p.first (leaf_words p wide f) 1 w)) other.1
    (init_of_state full p wide f g t v (p.source t) h k frame begin other.0 (ap (init_value wide) other.1 ∙ line.1)))
    (no_other_at full p wide t h line.0).1
init_holds full p wide f g _ h k frame begin line = tt

initial : (full : List FullLine) (p : Places) (wide : List Item) (f g : Frame) → IsWrittenOut full p wide → IsMadeBy full p wide f 1 g → IsFullFrame full f → Begins full f → IsInitial wide (started p.first (leaf_words p wide f) 1)
initial full p wide f g h k frame begin =
    record {
      fits = k.fits.state_fits;
      inits = all_with (λ (x : Item). IsInitLine wide x.body) (λ (x : Item). InitHolds wide (started p.first (leaf_words p wide f) 1) x.body) wide (λ x line. init_holds full p wide f g x.body h k frame begin line)
          (init_lines greatest_width wide h.well_formed);
    }

-- ---- the whole

inputs_fit : (p : Places) (wide : List Item) (fs : List Frame) → AllByRecursion (IsInput wide) (map (leaf_words p wide) fs)
inputs_fit p wide [] = tt
inputs_fit p wide (f ∷ fs) = (input_fits p wide f, inputs_fit p wide fs)

-- the trace of a run
pub record RunsAlong (full : List FullLine) (p : Places) (wide : List Item) (f : Frame) (fs : List Frame) : Type 0 where
  pub begins : IsInitial wide (started p.first (leaf_words p wide f) 1)
  pub given : AllByRecursion (IsInput wide) (map (leaf_words p wide) (f ∷ fs))
  pub traces : Traces full p wide (started p.first (leaf_words p wide f) 1) (f ∷ fs)

trace_of : (full : List FullLine) (p : Places) (wide : List Item) (f : Frame) (fs : List Frame) → IsWrittenOut full p wide → IsRun full (f ∷ fs) → RunsAlong full p wide f fs
trace_of full p wide f fs h is_run =
    let made = first_frame full p wide f h is_run.0.0 is_run.1 in
    let rest = traces_on full p wide f made.0 1 fs h made.1 is_run.0.1 is_run.2 in
    record {
      begins = initial full p wide f made.0 h made.1 is_run.0.0 is_run.1;
      given = inputs_fit p wide (f ∷ fs);
      traces = record {
        frames = made.0 ∷ rest.frames;
        is_trace = (made.1.fits.frame, rest.is_trace);
        same = ap₂ ◌∷◌ (made_shows full p wide f made.0 1 h made.1) rest.same;
        words = (made.1.same, rest.words);
      };
    }

pub run_down : (full : List FullLine) (p : Places) (wide : List Item) (f : Frame) (fs : List Frame) → IsWrittenOut full p wide → IsRun full (f ∷ fs)
    → IsInitial wide (started p.first (leaf_words p wide f) 1) × AllByRecursion (IsInput wide) (map (leaf_words p wide) (f ∷ fs)) × ((gs : List Frame)
    × IsTrace wide (started p.first (leaf_words p wide f) 1) (map (leaf_words p wide) (f ∷ fs)) gs × AllZip (λ g h. SameAtNodes full (read_by p g) h) gs (f ∷ fs))
run_down full p wide f fs h is_run = let made = trace_of full p wide f fs h is_run in (made.begins, made.given, (made.traces.frames, made.traces.is_trace, made.traces.words))

-- a rise of the wide list, in as many frames, from the words of the leaves in some
pub record Rises (p : Places) (wide : List Item) (b : ℕ) (fs : List Frame) : Type 0 where
  pub rise : CanRise wide b
  pub long : length rise.frames ≡ length fs
  pub begins : BeginsAs p wide rise.state fs
  pub given : rise.inputs ≡ map (leaf_words p wide) fs

rises : (full : List FullLine) (p : Places) (wide : List Item) (b : ℕ) (fs : List Frame) → IsWrittenOut full p wide → IsRun full fs → rises_within b (map (full_shows full) fs) ≡ true → Rises p wide b fs
rises full p wide b [] h is_run up = absurd (cc)
rises full p wide b (f ∷ fs) h is_run up =
    let made = trace_of full p wide f fs h is_run in
    record {
      rise = record {
        state = started p.first (leaf_words p wide f) 1;
        inputs = map (leaf_words p wide) (f ∷ fs);
        frames = made.traces.frames;
        initial = made.begins;
        given = made.given;
        trace = made.traces.is_trace;
        rises = ap (rises_within b) made.traces.same ∙ up;
      };
      long = sym (length-map made.traces.frames (model_shows wide)) ∙ ap length made.traces.same ∙ length-map (f ∷ fs) (full_shows full);
      begins = refl;
      given = refl;
    }

pub down : (full : List FullLine) (p : Places) (wide : List Item) (b : ℕ) → IsWrittenOut full p wide → (h : CanRiseFull full b)
    → (g : CanRise wide b) × (length g.frames ≡ length h.frames) × BeginsAs p wide g.state h.frames × (g.inputs ≡ map (leaf_words p wide) h.frames)
down full p wide b w h = let made = rises full p wide b h.frames w h.run h.rises in (made.rise, made.long, made.begins, made.given)
