-- A run of a model from a trace of the list that it is written out as.
use Rattle.std.proofs.Common.{◌≡◌, ℕ, ◌^◌, ◌<◌, Bool, true, nat_eq, List, [], ◌∷◌, map, length, Option, Some, None, IfSome, unwrap_or, option_map, refl, sym, ap, ap₂, subst, ◌∙◌, ⊎_elim, pow_pos}
use Rattle.std.specs.List.{AllByRecursion}
use Rattle.std.proofs.lemmas.List.{length-map}
use Rattle.base.specs.Operator.{ite_value}
use Rattle.base.specs.Shown.{Shown, rises_within}
use Rattle.btor2.specs.declared.item.Item.{Item}
use Rattle.btor2.specs.declared.item.Body.{Body}
use Rattle.btor2.specs.declared.item.Body.TheVariants as body
use Rattle.btor2.specs.Items.{is_bad, is_constraint, constant_of, init_value, next_value}
use Rattle.btor2.specs.Trace.{Frame, bits_of, LineHolds, IsFrame, InitHolds, next_state, IsTrace, StateFits, IsInput, IsState, IsInitial}
use Rattle.btor2.specs.Reachability.{nodes_of, model_shows, CanRise}
use Rattle.btor2.proofs.AppendLemmas.{is_some_from}
use Rattle.btor2.proofs.StateWords.{carried_word, not_free}
use Rattle.btor2.proofs.InitLemmas.{init_not_free, init_words_say}
use Rattle.btor2.proofs.AppendLemmas.{then_parts}
use Rattle.full.specs.Lines.{Operand, FullLine, full_nodes, width_of, AtInit, AtNext, next_of}
use Rattle.full.specs.Agreement.{names_full_state}
use Rattle.full.specs.Runs.{operand_word, first_word, LineSays, IsFullFrame, Begins, Follows, FollowEach, IsRun, full_shows, CanRiseFull}
use Rattle.full.specs.WrittenOut.{Places, read_by, IsCarried, HasWord, StateIsWritten, IsNoOther, IsAsItIs, IsByFirstWord, InitIsWritten, NextIsWritten, IsWrittenOut}
use Rattle.full.proofs.ListLemmas.{all_with, zip_map}
use Rattle.full.proofs.FullLookUps.{at_init, at_next, next_said, inits_named, nexts_named, both_init, both_next}
use Rattle.full.proofs.FitLemmas.{nexts_fit}
use Rattle.full.proofs.WideLemmas.{line_found}
use Rattle.full.proofs.PlaceLemmas.{placed, first_stands, first_word_is, first_is_left, IsLater, later_word}

-- a frame of the wide list, from words that fit
pub record IsFitFrame (wide : List Item) (state input g : Frame) : Type 0 where
  pub state_fits : IsState wide state
  pub input_fits : IsInput wide input
  pub frame : IsFrame wide state input g

pub full_frame : (full : List FullLine) (p : Places) (wide : List Item) (state input g : Frame) → IsWrittenOut full p wide → IsFitFrame wide state input g → IsFullFrame full (read_by p g)
full_frame full p wide state input g h k =
    all_with (IsCarried full p wide) (λ (x : FullLine). LineSays full (read_by p g) x.id x.says) full (λ x carried. carried state input g k.state_fits k.input_fits k.frame) h.lines

-- ---- the next state fits

zero_below : (v n : ℕ) → v ≡ 0 → v < 2 ^ n
zero_below v n e = subst (λ (w : ℕ). w < 2 ^ n) (sym e) (pow_pos n)

pub next_word : (wide : List Item) (g : Frame) (w : ℕ) (o : Option ℕ) → next_value wide w ≡ o → next_state wide g w ≡ unwrap_or (option_map g o) 0
next_word wide g w o e = ap (λ (o : Option ℕ). unwrap_or (option_map g o) 0) e

left_fits : (full : List FullLine) (p : Places) (wide : List Item) (state input g : Frame) (id : ℕ) → IsWrittenOut full p wide → IsFitFrame wide state input g → names_full_state full id ≡ true
    → next_state wide g (p.leaf id) < 2 ^ bits_of wide (p.leaf id)
left_fits full p wide state input g id h k names = by (next_of full id) refl
  where
    place : StateIsWritten full p wide id
    place = placed full p wide id h names

    says : AllByRecursion (λ (x : FullLine). AtNext (λ t o. NextIsWritten full p wide t o × (operand_word full (read_by p g) o < 2 ^ width_of full t)) x.says) full
    says = both_next (NextIsWritten full p wide) (λ t o. operand_word full (read_by p g) o < 2 ^ width_of full t) full h.nexts (nexts_fit full (read_by p g) h.agrees (full_frame full p wide state input g h k))

    of_value : (o : Operand) → NextIsWritten full p wide id o × (operand_word full (read_by p g) o < 2 ^ width_of full id) → next_state wide g (p.leaf id) < 2 ^ bits_of wide (p.leaf id)
    of_value o both =
        let next = both.0 in
        let word : next_state wide g (p.leaf id) ≡ operand_word full (read_by p g) o = next_word wide g (p.leaf id) (Some next.0) next.1 ∙ next.2 state input g k.state_fits k.input_fits k.frame in
        subst (λ (v : ℕ). v < 2 ^ bits_of wide (p.leaf id)) (sym word) (subst (λ (n : ℕ). operand_word full (read_by p g) o < 2 ^ n) (sym place.bits) both.1)

    by : (o : Option Operand) → next_of full id ≡ o → next_state wide g (p.leaf id) < 2 ^ bits_of wide (p.leaf id)
    by None e = zero_below _ _ (next_word wide g (p.leaf id) None (place.no_next e))
    by (Some o) e = of_value o (next_said (λ t o. NextIsWritten full p wide t o × (operand_word full (read_by p g) o < 2 ^ width_of full t)) full id o says e)

state_left : (full : List FullLine) (p : Places) (wide : List Item) (state input g : Frame) (w : ℕ) (b : Body) → IsWrittenOut full p wide → IsFitFrame wide state input g → IsNoOther full p w b
    → StateFits wide (next_state wide g) w b
state_left full p wide state input g w (body.State s) h k is = λ carried.
    ⊎_elim (λ first. zero_below _ _ (first_is_left full p wide w state input g (first_stands full p wide w h first) k.frame))
    (λ other. subst (λ (v : ℕ). next_state wide g v < 2 ^ bits_of wide v) other.1 (left_fits full p wide state input g (p.source w) h k other.0)) is
state_left full p wide state input g w _ h k is = tt

pub next_state_fits : (full : List FullLine) (p : Places) (wide : List Item) (state input g : Frame) → IsWrittenOut full p wide → IsFitFrame wide state input g → IsState wide (next_state wide g)
next_state_fits full p wide state input g h k =
    all_with (λ (x : Item). IsNoOther full p x.id x.body) (λ (x : Item). StateFits wide (next_state wide g) x.id x.body) wide (λ x is. state_left full p wide state input g x.id x.body h k is) h.no_others

-- ---- what a frame shows

abbrev pub shown : List Bool → List Bool → Shown
shown b c = record { bads = b; constraints = c }

pub shows_alike : (full : List FullLine) (p : Places) (wide : List Item) (state input g : Frame) → IsWrittenOut full p wide → IsFitFrame wide state input g → full_shows full (read_by p g) ≡ model_shows wide g
shows_alike full p wide state input g h k =
    let one : (o : Operand) (w : ℕ) → HasWord full p wide o w → nat_eq (operand_word full (read_by p g) o) 1 ≡ nat_eq (g w) 1 =
    λ o w has. ap (λ (v : ℕ). nat_eq v 1) (sym (has state input g k.state_fits k.input_fits k.frame)) in
    ap₂ shown (zip_map (HasWord full p wide) (λ (o : Operand). nat_eq (operand_word full (read_by p g) o) 1) (λ w. nat_eq (g w) 1) (full_nodes is_bad full) (nodes_of is_bad wide) one h.bads)
    (zip_map (HasWord full p wide) (λ (o : Operand). nat_eq (operand_word full (read_by p g) o) 1) (λ w. nat_eq (g w) 1) (full_nodes is_constraint full) (nodes_of is_constraint wide) one h.constraints)

-- ---- the first frame

begins_at : (full : List FullLine) (p : Places) (wide : List Item) (state input g : Frame) (t : ℕ) (o : Operand) → IsWrittenOut full p wide → IsFitFrame wide state input g
    → AllByRecursion (λ (x : Item). InitHolds wide state x.body) wide → InitIsWritten full p wide t o → names_full_state full t ≡ true → g (p.node t) ≡ first_word full (read_by p g) t o
begins_at full p wide state input g t o h k inits is names =
    ⊎_elim
    (λ (same : IsAsItIs full p wide t o).
    let init = then_parts (constant_of wide) (init_value wide (p.leaf t)) same.word same.begins in
    let carried : g (p.leaf t) ≡ state (p.leaf t) = carried_word wide state input g (p.leaf t) k.frame (placed full p wide t h names).state (init_not_free wide (p.leaf t) init.0 init.1) in
    ap g same.same ∙ carried ∙ sym (init_words_say wide state inits (p.leaf t) same.word same.begins) ∙ sym (same.constant state input g k.state_fits k.input_fits k.frame))
    (λ (choice : IsByFirstWord full p wide t o).
    let alone = first_stands full p wide choice.first h choice.is_first in
    let one : g choice.first ≡ 1 = first_word_is full p wide choice.first state input g alone k.frame ∙ sym (init_words_say wide state inits choice.first 1 alone.begins) in
    let line = subst (λ (b : Body). LineHolds wide state input g (p.node t) b) choice.chooses.2 (line_found wide state input g (p.node t) choice.chooses.0 choice.chooses.1 k.frame) in
    line ∙ ap (λ (c : ℕ). ite_value c (g choice.value) (g (p.leaf t))) one ∙ choice.word state input g k.state_fits k.input_fits k.frame) is

begins : (full : List FullLine) (p : Places) (wide : List Item) (state input g : Frame) → IsWrittenOut full p wide → IsFitFrame wide state input g → AllByRecursion (λ (x : Item). InitHolds wide state x.body) wide
    → Begins full (read_by p g)
begins full p wide state input g h k inits =
    all_with (λ (x : FullLine). AtInit (λ t o. InitIsWritten full p wide t o × (names_full_state full t ≡ true)) x.says) (λ (x : FullLine). AtInit (λ t o. g (p.node t) ≡ first_word full (read_by p g) t o) x.says) full
    (λ x both. at_init (λ t o. InitIsWritten full p wide t o × (names_full_state full t ≡ true)) (λ t o. g (p.node t) ≡ first_word full (read_by p g) t o) x.says (λ t o says. begins_at full p wide state input g t o h k inits says.0 says.1) both)
    (both_init (InitIsWritten full p wide) (λ t o. names_full_state full t ≡ true) full h.inits (inits_named full h.agrees))

-- ---- later frames

pub is_later : (full : List FullLine) (p : Places) (wide : List Item) (state input g i' g' : Frame) → IsWrittenOut full p wide → IsFrame wide state input g → IsFrame wide (next_state wide g) i' g' → IsLater p g'
is_later full p wide state input g i' g' h frame after = by p.first refl
  where
    by : (o : Option ℕ) → p.first ≡ o → IfSome o (λ w. g' w ≡ 0)
    by None e = tt
    by (Some w) e =
        let alone = first_stands full p wide w h e in
        first_word_is full p wide w (next_state wide g) i' g' alone after ∙ first_is_left full p wide w state input g alone frame

follows_at : (full : List FullLine) (p : Places) (wide : List Item) (state input g i' g' : Frame) (t : ℕ) (o : Operand) → IsWrittenOut full p wide → IsFitFrame wide state input g → IsFrame wide (next_state wide g) i' g'
    → NextIsWritten full p wide t o → names_full_state full t ≡ true → g' (p.node t) ≡ operand_word full (read_by p g) o
follows_at full p wide state input g i' g' t o h k after is names =
    let later = later_word full p wide t (next_state wide g) i' g' h names after (is_later full p wide state input g i' g' h k.frame after) in
    let carried = carried_word wide (next_state wide g) i' g' (p.leaf t) after (placed full p wide t h names).state (not_free wide (p.leaf t) (is_some_from (next_value wide (p.leaf t)) is.0 is.1)) in
    later ∙ carried ∙ next_word wide g (p.leaf t) (Some is.0) is.1 ∙ is.2 state input g k.state_fits k.input_fits k.frame

follows : (full : List FullLine) (p : Places) (wide : List Item) (state input g i' g' : Frame) → IsWrittenOut full p wide → IsFitFrame wide state input g → IsFrame wide (next_state wide g) i' g'
    → Follows full (read_by p g) (read_by p g')
follows full p wide state input g i' g' h k after =
    all_with (λ (x : FullLine). AtNext (λ t o. NextIsWritten full p wide t o × (names_full_state full t ≡ true)) x.says) (λ (x : FullLine). AtNext (λ t o. g' (p.node t) ≡ operand_word full (read_by p g) o) x.says) full
    (λ x both. at_next (λ t o. NextIsWritten full p wide t o × (names_full_state full t ≡ true)) (λ t o. g' (p.node t) ≡ operand_word full (read_by p g) o) x.says (λ t o says. follows_at full p wide state input g i' g' t o h k after says.0 says.1) both)
    (both_next (NextIsWritten full p wide) (λ t o. names_full_state full t ≡ true) full h.nexts (nexts_named full h.agrees))

-- ---- the whole

-- frames of the model behind one, by those of the wide list, that show the same
pub record GoesOn (full : List FullLine) (p : Places) (wide : List Item) (g : Frame) (gs : List Frame) : Type 0 where
  pub all : AllByRecursion (IsFullFrame full) (map (read_by p) gs)
  pub each : FollowEach full (read_by p g) (map (read_by p) gs)
  pub same : map (full_shows full) (map (read_by p) gs) ≡ map (model_shows wide) gs

goes_on : (full : List FullLine) (p : Places) (wide : List Item) (state input g : Frame) (inputs gs : List Frame) → IsWrittenOut full p wide → IsFitFrame wide state input g → AllByRecursion (IsInput wide) inputs
    → IsTrace wide (next_state wide g) inputs gs → GoesOn full p wide g gs
goes_on full p wide state input g [] [] h k given trace = record { all = tt; each = tt; same = refl }
goes_on full p wide state input g [] (g' ∷ gs) h k given trace = absurd trace
goes_on full p wide state input g (i' ∷ inputs) [] h k given trace = absurd trace
goes_on full p wide state input g (i' ∷ inputs) (g' ∷ gs) h k given trace =
    let k' : IsFitFrame wide (next_state wide g) i' g' = record { state_fits = next_state_fits full p wide state input g h k; input_fits = given.0; frame = trace.0 } in
    let rest = goes_on full p wide (next_state wide g) i' g' inputs gs h k' given.1 trace.1 in
    record {
      all = (full_frame full p wide (next_state wide g) i' g' h k', rest.all);
      each = (follows full p wide state input g i' g' h k trace.0, rest.each);
      same = ap₂ ◌∷◌ (shows_alike full p wide (next_state wide g) i' g' h k') rest.same;
    }

-- a run by a trace
pub record Makes (full : List FullLine) (p : Places) (wide : List Item) (gs : List Frame) : Type 0 where
  pub is_run : IsRun full (map (read_by p) gs)
  pub same : map (full_shows full) (map (read_by p) gs) ≡ map (model_shows wide) gs

makes : (full : List FullLine) (p : Places) (wide : List Item) (state : Frame) (inputs gs : List Frame) → IsWrittenOut full p wide → IsInitial wide state → AllByRecursion (IsInput wide) inputs → IsTrace wide state inputs gs
    → Makes full p wide gs
makes full p wide state [] [] h initial given trace = record { is_run = tt; same = refl }
makes full p wide state [] (g ∷ gs) h initial given trace = absurd trace
makes full p wide state (i ∷ inputs) [] h initial given trace = absurd trace
makes full p wide state (i ∷ inputs) (g ∷ gs) h initial given trace =
    let k : IsFitFrame wide state i g = record { state_fits = initial.fits; input_fits = given.0; frame = trace.0 } in
    let rest = goes_on full p wide state i g inputs gs h k given.1 trace.1 in
    record {
      is_run = ((full_frame full p wide state i g h k, rest.all), begins full p wide state i g h k initial.inits, rest.each);
      same = ap₂ ◌∷◌ (shows_alike full p wide state i g h k) rest.same;
    }

pub run_up : (full : List FullLine) (p : Places) (wide : List Item) (state : Frame) (inputs gs : List Frame) → IsWrittenOut full p wide → IsInitial wide state → AllByRecursion (IsInput wide) inputs → IsTrace wide state inputs gs
    → IsRun full (map (read_by p) gs) × (map (full_shows full) (map (read_by p) gs) ≡ map (model_shows wide) gs)
run_up full p wide state inputs gs h initial given trace = let made = makes full p wide state inputs gs h initial given trace in (made.is_run, made.same)

pub up : (full : List FullLine) (p : Places) (wide : List Item) (b : ℕ) → IsWrittenOut full p wide → (h : CanRise wide b)
    → (g : CanRiseFull full b) × (length g.frames ≡ length h.frames) × (g.frames ≡ map (read_by p) h.frames)
up full p wide b w h =
    let made = makes full p wide h.state h.inputs h.frames w h.initial h.given h.trace in
    (record { frames = map (read_by p) h.frames; run = made.is_run; rises = ap (rises_within b) made.same ∙ h.rises }, length-map h.frames (read_by p), refl)
