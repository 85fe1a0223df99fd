-- Frames of the list that a model is written out as, from frames of the model.
use Rattle.std.proofs.Common.{◌≡◌, ℕ, ◌%◌, ◌^◌, ◌<◌, Bool, true, false, cond, nat_eq, eqb-true, List, Option, Some, None, is_some, IfSome, unwrap_or, option_map, refl, sym, ap, ap₂, subst, ◌∙◌, ⊎_elim, pow_pos, arith}
use Rattle.std.specs.List.{AllByRecursion}
use Rattle.std.proofs.Math.Nat.{mod-lt, mod-eq_of_lt}
use Rattle.base.specs.Operator.{ite_value}
use Rattle.btor2.specs.declared.item.Item.{Item}
use Rattle.btor2.specs.declared.item.Body.{Body}
use Rattle.btor2.specs.declared.item.Body.TheVariants as body
use Rattle.btor2.specs.Items.{find_item, operands, is_state, is_free}
use Rattle.btor2.specs.Trace.{Frame, bits_of, LineHolds, IsFrame, IsInput, IsState}
use Rattle.btor2.proofs.StateWords.{state_has_word}
use Rattle.btor2.proofs.InitLemmas.{fitting_inputs, fitting_states}
use Rattle.wide.specs.WideModels.{greatest_width}
use Rattle.full.specs.Lines.{Operand, Says, form, FullLine, find_line, sort_of_node, is_form, width_of, init_of}
use Rattle.full.specs.Agreement.{names_full_state}
use Rattle.full.specs.Runs.{SameAtNodes, first_word, LineSays, LeafSame, IsFullFrame, Begins}
use Rattle.full.specs.WrittenOut.{Places, read_by, put, leaf_words, started, Stands, InputIsWritten, LeafIsWritten, IsAsItIs, IsByFirstWord, InitIsWritten, IsChoice, OnlyChooses, IsFirstAlone, IsWrittenOut}
use Rattle.full.proofs.ListLemmas.{all_with, all_both}
use Rattle.full.proofs.FullLookUps.{found_has, each_found, init_said, init_nodes}
use Rattle.full.proofs.FullFrames.{frame_by_leaves, first_word_same}
use Rattle.full.proofs.WideLemmas.{found_by_id, word_by_operands, if_word, put_own, put_other, wide_frame_exists, line_found}
use Rattle.full.proofs.PlaceLemmas.{named_is, placed, stand_alike, first_stands, first_is_carried, first_word_is, IsLater, later_word}
use Rattle.full.proofs.UpLemmas.{IsFitFrame, full_frame}

-- ---- the words of the leaves

pub leaf_words_fit : (p : Places) (wide : List Item) (f : Frame) (w : ℕ) → leaf_words p wide f w < 2 ^ bits_of wide w
leaf_words_fit p wide f w = mod-lt (f (p.source w)) (pow_pos (bits_of wide w))

leaf_word : (p : Places) (wide : List Item) (f : Frame) (id w n : ℕ) → bits_of wide w ≡ n → p.source w ≡ id → f id < 2 ^ n → leaf_words p wide f w ≡ f id
leaf_word p wide f id w n bits own fits = ap₂ (λ (k m : ℕ). f k % 2 ^ m) own bits ∙ mod-eq_of_lt fits

pub input_fits : (p : Places) (wide : List Item) (f : Frame) → IsInput wide (leaf_words p wide f)
input_fits p wide f = fitting_inputs wide (leaf_words p wide f) (leaf_words_fit p wide f) wide

pub started_fits : (full : List FullLine) (p : Places) (wide : List Item) (f : Frame) (bit : ℕ) → IsWrittenOut full p wide → bit < 2 ^ 1 → IsState wide (started p.first (leaf_words p wide f) bit)
started_fits full p wide f bit h low = fitting_states wide (started p.first (leaf_words p wide f) bit) (by p.first refl) wide
  where
    by : (o : Option ℕ) → p.first ≡ o → (k : ℕ) → started o (leaf_words p wide f) bit k < 2 ^ bits_of wide k
    by None e k = leaf_words_fit p wide f k
    by (Some w) e k = at (nat_eq k w) refl
      where
        at : (b : Bool) → nat_eq k w ≡ b → cond b bit (leaf_words p wide f k) < 2 ^ bits_of wide k
        at true same = subst (λ (n : ℕ). bit < 2 ^ n) (sym (ap (bits_of wide) (eqb-true k w same) ∙ (first_stands full p wide w h e).bit)) low
        at false same = leaf_words_fit p wide f k

-- another leaf has its word
started_other : (o : Option ℕ) (f : Frame) (bit w : ℕ) → IfSome o (λ v. nat_eq w v ≡ false) → started o f bit w ≡ f w
started_other None f bit w h = refl
started_other (Some v) f bit w h = sym (put_other f v bit w h)

-- ---- the words of a frame at the places of leaves

pub leaf_value : (full : List FullLine) (p : Places) (wide : List Item) (f : Frame) (bit id : ℕ) → IsWrittenOut full p wide → names_full_state full id ≡ true → f id < 2 ^ width_of full id
    → started p.first (leaf_words p wide f) bit (p.leaf id) ≡ f id
leaf_value full p wide f bit id h names fits =
    let place = placed full p wide id h names in started_other p.first (leaf_words p wide f) bit (p.leaf id) place.other ∙ leaf_word p wide f id (p.leaf id) (width_of full id) place.bits place.own fits

-- a state's own state has the state's word
pub leaf_is : (full : List FullLine) (p : Places) (wide : List Item) (f g : Frame) (bit id : ℕ) → IsWrittenOut full p wide → names_full_state full id ≡ true → f id < 2 ^ width_of full id
    → IsFrame wide (started p.first (leaf_words p wide f) bit) (leaf_words p wide f) g → g (p.leaf id) ≡ f id
leaf_is full p wide f g bit id h names fits frame =
    let place = placed full p wide id h names in
    state_has_word wide (started p.first (leaf_words p wide f) bit) (leaf_words p wide f) g (p.leaf id) frame place.state
    ∙ either (is_free wide (p.leaf id)) (started_other p.first (leaf_words p wide f) bit (p.leaf id) place.other) ∙ leaf_word p wide f id (p.leaf id) (width_of full id) place.bits place.own fits
  where
    either : (b : Bool) → started p.first (leaf_words p wide f) bit (p.leaf id) ≡ leaf_words p wide f (p.leaf id)
        → cond b (leaf_words p wide f (p.leaf id)) (started p.first (leaf_words p wide f) bit (p.leaf id)) ≡ leaf_words p wide f (p.leaf id)
    either true e = refl
    either false e = e

input_is : (full : List FullLine) (p : Places) (wide : List Item) (f g state : Frame) (id : ℕ) → InputIsWritten full p wide id → f id < 2 ^ width_of full id → IsFrame wide state (leaf_words p wide f) g → g (p.node id) ≡ f id
input_is full p wide f g state id h fits frame =
    let line = subst (λ (b : Body). LineHolds wide state (leaf_words p wide f) g (p.node id) b) h.0.1.2 (line_found wide state (leaf_words p wide f) g (p.node id) h.0.1.0 h.0.1.1 frame) in
    line ∙ leaf_word p wide f id (p.node id) (width_of full id) h.1 h.2 fits

-- ---- frames behind the first

pub states_named : (full : List FullLine) (x : FullLine) → find_line full x.id ≡ Some x → is_form is_state x.says ≡ true → names_full_state full x.id ≡ true
states_named full x e is = ap (λ (o : Option FullLine). unwrap_or (option_map (λ (y : FullLine). is_form is_state y.says) o) false) e ∙ is

later_leaf : (full : List FullLine) (p : Places) (wide : List Item) (f g : Frame) (id : ℕ) (b : Says) → IsWrittenOut full p wide → (is_form is_state b ≡ true → names_full_state full id ≡ true)
    → IsFrame wide (started p.first (leaf_words p wide f) 0) (leaf_words p wide f) g → IsLater p g → LeafIsWritten full p wide id b → LineSays full f id b → LeafSame (read_by p g) f id b
later_leaf full p wide f g id (form (body.Input s) m) h named frame later place says = input_is full p wide f g (started p.first (leaf_words p wide f) 0) id place says frame
later_leaf full p wide f g id (form (body.State s) m) h named frame later place says =
    later_word full p wide id (started p.first (leaf_words p wide f) 0) (leaf_words p wide f) g h (named refl) frame later ∙ leaf_is full p wide f g 0 id h (named refl) says frame
later_leaf full p wide f g id _ h named frame later place says = tt

-- what is known of each line of the model, in a frame of it
abbrev Known : List FullLine → Places → List Item → Frame → FullLine → Type 0
Known full p wide f x = (find_line full x.id ≡ Some x) × (LeafIsWritten full p wide x.id x.says × LineSays full f x.id x.says)

pub known : (full : List FullLine) (p : Places) (wide : List Item) (f : Frame) → IsWrittenOut full p wide → IsFullFrame full f → AllByRecursion (Known full p wide f) full
known full p wide f h frame =
    all_both (λ (x : FullLine). find_line full x.id ≡ Some x) (λ (x : FullLine). LeafIsWritten full p wide x.id x.says × LineSays full f x.id x.says) full (each_found full h.agrees)
    (all_both (λ (x : FullLine). LeafIsWritten full p wide x.id x.says) (λ (x : FullLine). LineSays full f x.id x.says) full h.leaves frame)

later_by : (full : List FullLine) (p : Places) (wide : List Item) (f g : Frame) → IsWrittenOut full p wide → IsFullFrame full f → IsFrame wide (started p.first (leaf_words p wide f) 0) (leaf_words p wide f) g → IsLater p g
later_by full p wide f g h full_one frame = by p.first refl frame
  where
    by : (o : Option ℕ) → p.first ≡ o → IsFrame wide (started o (leaf_words p wide f) 0) (leaf_words p wide f) g → IfSome o (λ w. g w ≡ 0)
    by None e frame = tt
    by (Some w) e frame = first_word_is full p wide w (put (leaf_words p wide f) w 0) (leaf_words p wide f) g (first_stands full p wide w h e) frame ∙ put_own (leaf_words p wide f) w 0

-- a frame of the model behind the first is that of a frame of the wide list
pub record IsMadeBy (full : List FullLine) (p : Places) (wide : List Item) (f : Frame) (bit : ℕ) (g : Frame) : Type 0 where
  pub fits : IsFitFrame wide (started p.first (leaf_words p wide f) bit) (leaf_words p wide f) g
  pub same : SameAtNodes full (read_by p g) f

pub later_frame : (full : List FullLine) (p : Places) (wide : List Item) (f : Frame) → IsWrittenOut full p wide → IsFullFrame full f → (g : Frame) × IsMadeBy full p wide f 0 g
later_frame full p wide f h frame =
    let found = wide_frame_exists greatest_width wide (started p.first (leaf_words p wide f) 0) (leaf_words p wide f) h.well_formed in
    let g : Frame = found.0 in
    let k : IsFitFrame wide (started p.first (leaf_words p wide f) 0) (leaf_words p wide f) g = record { state_fits = started_fits full p wide f 0 h (pow_pos 1); input_fits = input_fits p wide f; frame = found.1 } in
    let leaves = all_with (Known full p wide f) (λ (x : FullLine). LeafSame (read_by p g) f x.id x.says) full
    (λ x says. later_leaf full p wide f g x.id x.says h (states_named full x says.0) found.1 (later_by full p wide f g h frame found.1) says.1.0 says.1.1) (known full p wide f h frame) in
    (g, record { fits = k; same = frame_by_leaves full (read_by p g) f h.agrees leaves (full_frame full p wide (started p.first (leaf_words p wide f) 0) (leaf_words p wide f) g h k) frame })

-- ---- the first frame

state_says : (full : List FullLine) (f : Frame) (id : ℕ) (b : Says) → is_form is_state b ≡ true → LineSays full f id b → f id < 2 ^ width_of full id
state_says full f id (form (body.State s) m) is h = h
state_says full f id (form _ m) is h = absurd (cc)
state_says full f id _ is h = absurd (cc)

pub state_below : (full : List FullLine) (f : Frame) (id : ℕ) → names_full_state full id ≡ true → IsFullFrame full f → f id < 2 ^ width_of full id
state_below full f id names frame =
    let found = named_is (find_line full id) names in state_says full f id found.0.says found.2 (found_has (LineSays full f) full id found.0 found.1 frame)

-- where the model begins, both words of a choice are one
choice_alike : (full : List FullLine) (p : Places) (wide : List Item) (f g : Frame) (v w : ℕ) → IsWrittenOut full p wide → IsFullFrame full f → Begins full f → IsMadeBy full p wide f 0 g → IsChoice full p wide v w → g v ≡ g w
choice_alike full p wide f g v w h frame begin k is =
    let id = is.0 in
    let o = is.1 in
    let node = init_said (λ t o. is_some (sort_of_node full o.id) ≡ true) full id o (init_nodes full h.agrees) is.3 in
    let first : g v ≡ first_word full (read_by p g) id o = is.5 (started p.first (leaf_words p wide f) 0) (leaf_words p wide f) g k.fits.state_fits k.fits.input_fits k.fits.frame in
    let says : f id ≡ first_word full f id o = init_said (λ t o. f t ≡ first_word full f t o) full id o begin is.3 in
    first ∙ first_word_same full (read_by p g) f id o (k.same o.id node) ∙ sym says ∙ sym (leaf_is full p wide f g 0 id h is.2 (state_below full f id is.2 frame) k.fits.frame) ∙ ap g (sym is.4)

choice_kept : (wide : List Item) (g : Frame) (first id c v w : ℕ) → (b : Bool) → nat_eq c first ≡ b → g first ≡ 0 → (b ≡ true → g v ≡ g w) → g id ≡ ite_value (g c) (g v) (g w)
    → g id ≡ ite_value (cond b 1 (g c)) (g v) (g w)
choice_kept wide g first id c v w true e zero alike h =
    h ∙ ap (λ (k : ℕ). ite_value k (g v) (g w)) (ap g (eqb-true c first e) ∙ zero) ∙ sym (alike refl)
choice_kept wide g first id c v w false e zero alike h = h

line_put : (full : List FullLine) (p : Places) (wide : List Item) (f g : Frame) (first id : ℕ) (b : Body) → g first ≡ 0 → ((v w : ℕ) → IsChoice full p wide v w → g v ≡ g w) → nat_eq id first ≡ false → OnlyChooses full p wide first b
    → LineHolds wide (put f first 0) f g id b → LineHolds wide (put f first 1) f (put g first 1) id b
line_put full p wide f g first id (body.Sort n) zero alike other only h = h
line_put full p wide f g first id (body.Init s t v) zero alike other only h = h
line_put full p wide f g first id (body.Next s t v) zero alike other only h = h
line_put full p wide f g first id (body.Bad a) zero alike other only h = h
line_put full p wide f g first id (body.Constraint a) zero alike other only h = h
line_put full p wide f g first id (body.Fair a) zero alike other only h = h
line_put full p wide f g first id (body.Output a) zero alike other only h = h
line_put full p wide f g first id (body.Justice nodes) zero alike other only h = h
line_put full p wide f g first id (body.State s) zero alike other only h =
    sym (put_other g first 1 id other) ∙ h ∙ ap (λ (w : ℕ). cond (is_free wide id) (f id) w) (sym (put_other f first 0 id other) ∙ put_other f first 1 id other)
line_put full p wide f g first id (body.Ite s c v w) zero alike other only h =
    sym (put_other g first 1 id other)
    ∙ choice_kept wide g first id c v w (nat_eq c first) refl zero (λ e. alike v w (only.2 e)) h
    ∙ ap₂ (λ (x y : ℕ). ite_value (put g first 1 c) x y) (put_other g first 1 v only.0) (put_other g first 1 w only.1)
line_put full p wide f g first id b zero alike other only h =
    let same = all_with (λ a. nat_eq a first ≡ false) (λ a. g a ≡ put g first 1 a) (operands b) (put_other g first 1) (only refl) in
    if_word _ _ (g id) (put g first 1 id) (word_by_operands wide (put f first 1) f g (put g first 1) id b same) (put_other g first 1 id other) h

own_line : (full : List FullLine) (p : Places) (wide : List Item) (f g : Frame) (first : ℕ) (y : Item) → IsFirstAlone full p wide first → y.id ≡ first → find_item wide y.id ≡ Some y
    → LineHolds wide (put f first 1) f (put g first 1) y.id y.body
own_line full p wide f g first y alone e found =
    let is : y.body ≡ body.State alone.state.0 = stand_alike wide first y.body (body.State alone.state.0) (y, ap (find_item wide) (sym e) ∙ found, refl) alone.state.1 in
    subst (λ (b : Body). LineHolds wide (put f first 1) f (put g first 1) y.id b) (sym is)
    (subst (λ (k : ℕ). put g first 1 k ≡ cond (is_free wide k) (f k) (put f first 1 k)) (sym e)
    (put_own g first 1 ∙ sym (ap (λ (b : Bool). cond b (f first) (put f first 1 first)) (first_is_carried full p wide first alone) ∙ put_own f first 1)))

item_put : (full : List FullLine) (p : Places) (wide : List Item) (f g : Frame) (first : ℕ) (y : Item) → IsFirstAlone full p wide first → g first ≡ 0 → ((v w : ℕ) → IsChoice full p wide v w → g v ≡ g w)
    → find_item wide y.id ≡ Some y → OnlyChooses full p wide first y.body → LineHolds wide (put f first 0) f g y.id y.body → LineHolds wide (put f first 1) f (put g first 1) y.id y.body
item_put full p wide f g first y alone zero alike found only h = by (nat_eq y.id first) refl
  where
    by : (b : Bool) → nat_eq y.id first ≡ b → LineHolds wide (put f first 1) f (put g first 1) y.id y.body
    by true e = own_line full p wide f g first y alone (eqb-true y.id first e) found
    by false e = line_put full p wide f g first y.id y.body zero alike e only h

first_put : (full : List FullLine) (p : Places) (wide : List Item) (f g : Frame) (first : ℕ) → IsWrittenOut full p wide → IsFirstAlone full p wide first → g first ≡ 0 → ((v w : ℕ) → IsChoice full p wide v w → g v ≡ g w)
    → IsFrame wide (put f first 0) f g → IsFrame wide (put f first 1) f (put g first 1)
first_put full p wide f g first h alone zero alike frame =
    all_with (λ (y : Item). (find_item wide y.id ≡ Some y) × (OnlyChooses full p wide first y.body × LineHolds wide (put f first 0) f g y.id y.body)) (λ (y : Item). LineHolds wide (put f first 1) f (put g first 1) y.id y.body) wide
    (λ y says. item_put full p wide f g first y alone zero alike says.0 says.1.0 says.1.1)
    (all_both (λ (y : Item). find_item wide y.id ≡ Some y) (λ (y : Item). OnlyChooses full p wide first y.body × LineHolds wide (put f first 0) f g y.id y.body) wide (found_by_id greatest_width wide h.well_formed)
    (all_both (λ (y : Item). OnlyChooses full p wide first y.body) (λ (y : Item). LineHolds wide (put f first 0) f g y.id y.body) wide alone.only frame))

-- no leaf of the model stands where that state does
other_place : (wide : List Item) (first w s : ℕ) (b : Body) → Stands wide first (body.State s) → Stands wide w b → is_state b ≡ false → nat_eq w first ≡ false
other_place wide first w s b state stands other = by (nat_eq w first) refl
  where
    by : (c : Bool) → nat_eq w first ≡ c → c ≡ false
    by true e = ap is_state (stand_alike wide first (body.State s) b state (subst (λ (k : ℕ). Stands wide k b) (eqb-true w first e) stands)) ∙ other
    by false e = refl

state_apart : (full : List FullLine) (p : Places) (wide : List Item) (first id : ℕ) → IsWrittenOut full p wide → p.first ≡ Some first → names_full_state full id ≡ true → nat_eq (p.node id) first ≡ false
state_apart full p wide first id h is names = by (init_of full id) refl
  where
    leaf : nat_eq (p.leaf id) first ≡ false
    leaf = subst (λ (o : Option ℕ). IfSome o (λ w. nat_eq (p.leaf id) w ≡ false)) is (placed full p wide id h names).other

    by : (o : Option Operand) → init_of full id ≡ o → nat_eq (p.node id) first ≡ false
    by None e = ap (λ (k : ℕ). nat_eq k first) ((placed full p wide id h names).no_init e).0 ∙ leaf
    by (Some o) e =
        ⊎_elim (λ (same : IsAsItIs full p wide id o). ap (λ (k : ℕ). nat_eq k first) same.same ∙ leaf)
        (λ (choice : IsByFirstWord full p wide id o).
        other_place wide first (p.node id) (first_stands full p wide first h is).state.0 (body.Ite choice.sort choice.first choice.value (p.leaf id)) (first_stands full p wide first h is).state.1 choice.chooses refl)
        (init_said (InitIsWritten full p wide) full id o h.inits e)

leaf_put : (full : List FullLine) (p : Places) (wide : List Item) (f g : Frame) (first id : ℕ) (b : Says) → IsWrittenOut full p wide → p.first ≡ Some first → (is_form is_state b ≡ true → names_full_state full id ≡ true)
    → LeafIsWritten full p wide id b → LeafSame (read_by p g) f id b → LeafSame (read_by p (put g first 1)) f id b
leaf_put full p wide f g first id (form (body.Input s) m) h is named place same =
    let alone = first_stands full p wide first h is in
    sym (put_other g first 1 (p.node id) (other_place wide first (p.node id) alone.state.0 (body.Input place.0.0) alone.state.1 place.0.1 refl)) ∙ same
leaf_put full p wide f g first id (form (body.State s) m) h is named place same = sym (put_other g first 1 (p.node id) (state_apart full p wide first id h is (named refl))) ∙ same
leaf_put full p wide f g first id _ h is named place same = tt

bit_below : 1 < 2 ^ 1
bit_below = omega arith

-- the first frame of a run is that of a frame of the wide list, in which that state is 1
pub first_frame : (full : List FullLine) (p : Places) (wide : List Item) (f : Frame) → IsWrittenOut full p wide → IsFullFrame full f → Begins full f → (g : Frame) × IsMadeBy full p wide f 1 g
first_frame full p wide f h frame begin = by p.first refl
  where
    by : (o : Option ℕ) → p.first ≡ o → (g : Frame) × IsMadeBy full p wide f 1 g
    by None e =
        let made = later_frame full p wide f h frame in
        let same : started p.first (leaf_words p wide f) 0 ≡ started p.first (leaf_words p wide f) 1 = ap (λ (o : Option ℕ). started o (leaf_words p wide f) 0) e ∙ sym (ap (λ (o : Option ℕ). started o (leaf_words p wide f) 1) e) in
        (made.0, record { fits = subst (λ (t : Frame). IsFitFrame wide t (leaf_words p wide f) made.0) same made.1.fits; same = made.1.same })
    by (Some first) e =
        let made = later_frame full p wide f h frame in
        let g : Frame = made.0 in
        let before : IsFrame wide (put (leaf_words p wide f) first 0) (leaf_words p wide f) g = subst (λ (o : Option ℕ). IsFrame wide (started o (leaf_words p wide f) 0) (leaf_words p wide f) g) e made.1.fits.frame in
        let zero = subst (λ (o : Option ℕ). IfSome o (λ w. g w ≡ 0)) e (later_by full p wide f g h frame made.1.fits.frame) in
        let after = first_put full p wide (leaf_words p wide f) g first h (first_stands full p wide first h e) zero (λ v w is. choice_alike full p wide f g v w h frame begin made.1 is) before in
        let k : IsFitFrame wide (started p.first (leaf_words p wide f) 1) (leaf_words p wide f) (put g first 1) = record {
          state_fits = started_fits full p wide f 1 h bit_below;
          input_fits = input_fits p wide f;
          frame = subst (λ (o : Option ℕ). IsFrame wide (started o (leaf_words p wide f) 1) (leaf_words p wide f) (put g first 1)) (sym e) after;
        } in
        let leaves = all_with (Known full p wide f) (λ (x : FullLine). LeafSame (read_by p (put g first 1)) f x.id x.says) full
        (λ x says. leaf_put full p wide f g first x.id x.says h e (states_named full x says.0) says.1.0
        (later_leaf full p wide f g x.id x.says h (states_named full x says.0) made.1.fits.frame (later_by full p wide f g h frame made.1.fits.frame) says.1.0 says.1.1)) (known full p wide f h frame) in (
          put g first 1,
          record { fits = k; same = frame_by_leaves full (read_by p (put g first 1)) f h.agrees leaves (full_frame full p wide (started p.first (leaf_words p wide f) 1) (leaf_words p wide f) (put g first 1) h k) frame },
        )
