-- What a written-out list says of the states of a model: where they stand, and the state that is 1 in the first frame alone.
use Rattle.std.proofs.Common.{◌≡◌, ℕ, true, false, cond, List, Option, Some, None, is_some, IfSome, unwrap_or, option_map, option_and_then, refl, sym, ap, subst, ◌∙◌, ⊎_elim}
use Rattle.std.proofs.lemmas.Option.{same_Some}
use Rattle.base.specs.Operator.{ite_value}
use Rattle.btor2.specs.declared.item.Item.{Item}
use Rattle.btor2.specs.declared.item.Body.{Body}
use Rattle.btor2.specs.declared.item.Body.TheVariants as body
use Rattle.btor2.specs.Items.{is_state, names_state, is_free, constant_of, init_value}
use Rattle.btor2.specs.Trace.{Frame, LineHolds, IsFrame, next_state}
use Rattle.btor2.proofs.AppendLemmas.{then_parts}
use Rattle.btor2.proofs.StateWords.{carried_word}
use Rattle.btor2.proofs.InitLemmas.{init_not_free}
use Rattle.full.specs.Lines.{Operand, Says, form, FullLine, find_line, is_form, init_of}
use Rattle.full.specs.Agreement.{names_full_state}
use Rattle.full.specs.WrittenOut.{Places, Stands, StateIsWritten, LeafIsWritten, IsAsItIs, IsByFirstWord, InitIsWritten, IsFirstAlone, IsWrittenOut}
use Rattle.full.proofs.FullLookUps.{found_has, init_said}
use Rattle.full.proofs.WideLemmas.{line_found, constant_word_there}

-- ---- where states stand

state_at : (full : List FullLine) (p : Places) (wide : List Item) (id : ℕ) (b : Says) → is_form is_state b ≡ true → LeafIsWritten full p wide id b → StateIsWritten full p wide id
state_at full p wide id (form (body.State s) minuses) is h = h
state_at full p wide id (form _ minuses) is h = absurd (cc)
state_at full p wide id _ is h = absurd (cc)

pub named_is : (o : Option FullLine) → unwrap_or (option_map (λ (x : FullLine). is_form is_state x.says) o) false ≡ true → (x : FullLine) × (o ≡ Some x) × (is_form is_state x.says ≡ true)
named_is None h = absurd (cc)
named_is (Some x) h = (x, refl, h)

-- each state of the model has its place
pub placed : (full : List FullLine) (p : Places) (wide : List Item) (id : ℕ) → IsWrittenOut full p wide → names_full_state full id ≡ true → StateIsWritten full p wide id
placed full p wide id h names =
    let found = named_is (find_line full id) names in
    state_at full p wide id found.0.says found.2 (found_has (LeafIsWritten full p wide) full id found.0 found.1 h.leaves)

pub stands_as_state : (wide : List Item) (w s : ℕ) → Stands wide w (body.State s) → names_state wide w ≡ true
stands_as_state wide w s h =
    ap (λ (o : Option Item). is_some (option_and_then (λ (x : Item). cond (is_state x.body) (Some x) None) o)) h.1 ∙ ap (λ (b : Body). is_some (cond (is_state b) (Some h.0) None)) h.2

-- two items that stand at one place are one
pub stand_alike : (wide : List Item) (w : ℕ) (b c : Body) → Stands wide w b → Stands wide w c → b ≡ c
stand_alike wide w b c h k = sym h.2 ∙ ap (λ (x : Item). x.body) (same_Some h.0 k.0 (sym h.1 ∙ k.1)) ∙ k.2

-- ---- the state that is 1 in the first frame alone

pub first_stands : (full : List FullLine) (p : Places) (wide : List Item) (w : ℕ) → IsWrittenOut full p wide → p.first ≡ Some w → IsFirstAlone full p wide w
first_stands full p wide w h e = subst (λ (o : Option ℕ). IfSome o (IsFirstAlone full p wide)) e h.first

pub first_is_carried : (full : List FullLine) (p : Places) (wide : List Item) (w : ℕ) → IsFirstAlone full p wide w → is_free wide w ≡ false
first_is_carried full p wide w h =
    let init = then_parts (constant_of wide) (init_value wide w) 1 h.begins in init_not_free wide w init.0 init.1

pub first_word_is : (full : List FullLine) (p : Places) (wide : List Item) (w : ℕ) (state input g : Frame) → IsFirstAlone full p wide w → IsFrame wide state input g → g w ≡ state w
first_word_is full p wide w state input g h frame = carried_word wide state input g w frame (stands_as_state wide w h.state.0 h.state.1) (first_is_carried full p wide w h)

pub first_is_left : (full : List FullLine) (p : Places) (wide : List Item) (w : ℕ) (state input g : Frame) → IsFirstAlone full p wide w → IsFrame wide state input g → next_state wide g w ≡ 0
first_is_left full p wide w state input g h frame = ap (λ (o : Option ℕ). unwrap_or (option_map g o) 0) h.next.1 ∙ constant_word_there wide state input g h.next.0 0 h.next.2 frame

-- ---- the words of states

-- behind the first frame
abbrev pub IsLater : Places → Frame → Type 0
IsLater p g = IfSome p.first (λ w. g w ≡ 0)

chosen : (p : Places) (w c x y z : ℕ) (g : Frame) → p.first ≡ Some w → IsLater p g → z ≡ ite_value (g w) x y → z ≡ y
chosen p w c x y z g e later h = h ∙ ap (λ (k : ℕ). ite_value k x y) (subst (λ (o : Option ℕ). IfSome o (λ w. g w ≡ 0)) e later)

-- there the node of a state has the word of its own state
pub later_word : (full : List FullLine) (p : Places) (wide : List Item) (id : ℕ) (state input g : Frame) → IsWrittenOut full p wide → names_full_state full id ≡ true → IsFrame wide state input g → IsLater p g
    → g (p.node id) ≡ g (p.leaf id)
later_word full p wide id state input g h names frame later = by (init_of full id) refl
  where
    by_value : (o : Operand) → InitIsWritten full p wide id o → g (p.node id) ≡ g (p.leaf id)
    by_value o k =
        ⊎_elim (λ (same : IsAsItIs full p wide id o). ap g same.same)
        (λ (choice : IsByFirstWord full p wide id o).
        let stands = choice.chooses in
        let line = subst (λ (b : Body). LineHolds wide state input g (p.node id) b) stands.2 (line_found wide state input g (p.node id) stands.0 stands.1 frame) in
        chosen p choice.first 0 (g choice.value) (g (p.leaf id)) (g (p.node id)) g choice.is_first later line) k

    by : (o : Option Operand) → init_of full id ≡ o → g (p.node id) ≡ g (p.leaf id)
    by None e = ap g ((placed full p wide id h names).no_init e).0
    by (Some o) e = by_value o (init_said (InitIsWritten full p wide) full id o h.inits e)
