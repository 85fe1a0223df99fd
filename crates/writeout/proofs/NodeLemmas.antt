-- The nodes of lines.
use Rattle.std.proofs.Common.{◌≡◌, ℕ, ◌+◌, ◌<◌, Bool, true, false, List, [], ◌∷◌, ◌++◌, length, slice_get, Option, Some, None, IfSome, option_and_then, refl, sym, ap, subst, ◌∙◌, arith}
use Rattle.std.proofs.lemmas.Bool.{false≢true}
use Rattle.btor2.specs.declared.item.Item.{Item}
use Rattle.btor2.specs.declared.item.Body.{Body}
use Rattle.btor2.specs.declared.item.Body.TheVariants as body
use Rattle.btor2.specs.Items.{find_item, operands, node_width, sort_width, width_of_body, is_input, is_state, constant_word, constant_of, constant_of_body}
use Rattle.btor2.proofs.AppendLemmas.{find_item-append, node_width-append}
use Rattle.full.specs.Lines.{Operand, operand, Says, form, FullLine, is_form, width_of}
use Rattle.full.specs.Agreement.{IsFullModel}
use Rattle.full.specs.Runs.{at_place}
use Rattle.full.specs.WrittenOut.{Places, HasWord}
use Rattle.full.proofs.GivesLemmas.{form_carried}
use Rattle.cells.specs.Lines.{named, is_plain}
use Rattle.cells.proofs.PlaceLemmas.{found_last, width_last}
use Rattle.writeout.specs.Forms.{is_value, renamed, minus_at}
use Rattle.writeout.specs.Needs.{place_of}
use Rattle.writeout.specs.Writings.{Writing, IsGiven, IsOther, GoesOn, with_items, Grows}
use Rattle.writeout.specs.Nodes.{OperandStands, LineStands, NodesStand, IsConstantOf, OperandsDone}
use Rattle.writeout.proofs.FormLemmas.{AtPlace, word_same, IsForm, renamed_form, renamed_operands, renamed_zip}
use Rattle.writeout.proofs.GrowLemmas.{operand_on}
use Rattle.writeout.proofs.StepLemmas.{new_is_other, line_grows}
use Rattle.cells.specs.Lines.{Extends}
use Rattle.cells.specs.Kept.{IsSound}
use Rattle.writeout.specs.Nodes.{IsLine, IsMade}
use Rattle.writeout.proofs.StepLemmas.{extends_grows}
use Rattle.writeout.proofs.GrowLemmas.{nodes_on, grows_on}
use Rattle.writeout.proofs.LineLemmas.{minuses_at, form_sound, AsWide, at_with}
use Rattle.writeout.proofs.LongerLemmas.{goes_back}

-- operands at a place stay
pub at_on : (full : List FullLine) (w : Writing) (items : List Item) (ids : List ℕ) (minus : Bool) (k x : ℕ) → Grows full w items → AtPlace ids k (λ a. OperandStands full w (operand a minus) x)
    → AtPlace ids k (λ a. OperandStands full (with_items w items) (operand a minus) x)
at_on full w items ids minus k x g h = by (slice_get ids k) h
  where
    by : (o : Option ℕ) → IfSome o (λ a. OperandStands full w (operand a minus) x) → IfSome o (λ a. OperandStands full (with_items w items) (operand a minus) x)
    by None h = tt
    by (Some a) h = operand_on full w items (operand a minus) x g h

-- the operands of a form have their nodes
pub done_at : (full : List FullLine) (w : Writing) (b : Body) (minuses : List Bool) (says : Says) (k : ℕ) → says ≡ form b minuses → OperandsDone full w says → AtPlace (operands b) k (λ a. IsGiven (at_place w.nodes (place_of full a)))
done_at full w b minuses says k e h = minuses_at (λ a. IsGiven (at_place w.nodes (place_of full a))) (operands b) minuses k (subst (OperandsDone full w) e h)

-- ---- forms

pub no_leaf : (b : Body) → is_value b ≡ true → (is_input b ≡ false) × (is_state b ≡ false)
no_leaf (body.Input s) value = absurd (cc)
no_leaf (body.State s) value = absurd (cc)
no_leaf _ value = (refl, refl)

pub value_plain : (b : Body) → is_value b ≡ true → is_plain b ≡ true
value_plain (body.Zero s) value = refl
value_plain (body.One s) value = refl
value_plain (body.Ones s) value = refl
value_plain (body.Const s d v) value = refl
value_plain (body.Constd s v) value = refl
value_plain (body.Consth s d v) value = refl
value_plain (body.Uext s a by) value = refl
value_plain (body.Sext s a by) value = refl
value_plain (body.Slice s a u l) value = refl
value_plain (body.Unary op s a) value = refl
value_plain (body.Binary op s a b) value = refl
value_plain (body.Concat s a b) value = refl
value_plain (body.Ite s c t e) value = refl
value_plain _ value = absurd (cc)

behind : (n : ℕ) → n < n + 1
behind n = omega arith

pub id_given : (id n : ℕ) → id ≡ n + 1 → IsGiven id
id_given id n e = grind arith

-- what a new line of a form gives
pub record IsPut (w : Writing) (items : List Item) (id : ℕ) (symbol : Option (List ℕ)) (b : Body) : Type 0 where
  pub is : items ≡ w.items ++ named id symbol b ∷ []
  pub number : id ≡ length w.items + 1
  pub fresh : find_item w.items id ≡ None

pub form_grows : (full : List FullLine) (w : Writing) (items : List Item) (id : ℕ) (symbol : Option (List ℕ)) (b : Body) (minuses : List Bool) (r x y z : ℕ) → is_value b ≡ true
    → items ≡ w.items ++ named id symbol (renamed r x y z b) ∷ []
    → AtPlace (operands b) 0 (λ a. OperandStands full w (operand a (minus_at minuses 0)) x) → AtPlace (operands b) 1 (λ a. OperandStands full w (operand a (minus_at minuses 1)) y)
    → AtPlace (operands b) 2 (λ a. OperandStands full w (operand a (minus_at minuses 2)) z) → Grows full w items
form_grows full w items id symbol b minuses r x y z value is at0 at1 at2 =
    let f = renamed_form r x y z b value in
    line_grows full w items id symbol (renamed r x y z b) is (value_plain (renamed r x y z b) f.value)
    (renamed_operands (IsOther w.first) r x y z b value (at_with (λ a. OperandStands full w (operand a (minus_at minuses 0)) x) (λ a. IsOther w.first x) (operands b) 0 (λ a h. h.other) at0)
    (at_with (λ a. OperandStands full w (operand a (minus_at minuses 1)) y) (λ a. IsOther w.first y) (operands b) 1 (λ a h. h.other) at1)
    (at_with (λ a. OperandStands full w (operand a (minus_at minuses 2)) z) (λ a. IsOther w.first z) (operands b) 2 (λ a h. h.other) at2))

constant_said : (full : List FullLine) (w : Writing) (id a : ℕ) (b : Body) (minuses : List Bool) (says : Says) → says ≡ form b minuses → constant_of w.items a ≡ constant_word (width_of full id) b → IsConstantOf full w id says a
constant_said full w id a b minuses says e h = subst (λ (c : Says). IsConstantOf full w id c a) (sym e) (λ there. h)

pub form_stands : (full : List FullLine) (w : Writing) (items : List Item) (t : FullLine) (id leaf : ℕ) (symbol : Option (List ℕ)) (b : Body) (minuses : List Bool) (r x y z : ℕ) → NodesStand full w → t.says ≡ form b minuses
    → is_value b ≡ true → IsPut w items id symbol (renamed r x y z b) → sort_width w.items r ≡ Some (width_of full t.id)
    → AtPlace (operands b) 0 (λ a. OperandStands full w (operand a (minus_at minuses 0)) x) → AtPlace (operands b) 1 (λ a. OperandStands full w (operand a (minus_at minuses 1)) y)
    → AtPlace (operands b) 2 (λ a. OperandStands full w (operand a (minus_at minuses 2)) z) → LineStands full (with_items w items) t leaf id
form_stands full w items t id leaf symbol b minuses r x y z stands says value put sort at0 at1 at2 = record {
  width = width;
  carried = λ p wide g here.
      form_carried full p wide t b minuses item says here (found_wide p wide g)
      (subst (λ (l : List Item). node_width l id ≡ Some (width_of full t.id)) (sym g.is) (node_width-append items g.more id (width_of full t.id) width))
      (no_leaf b value).0 (no_leaf b value).1 f.input f.state (word_same r x y z b value)
      (renamed_zip (HasTheir p wide) r x y z b minuses value (their p wide g 0 x at0) (their p wide g 1 y at1) (their p wide g 2 z at2));
  other = new_is_other full w id stands (subst (λ (n : ℕ). length w.items < n) (sym put.number) (behind (length w.items)));
  constant = constant_said full (with_items w items) t.id id b minuses t.says says
      (ap (option_and_then (λ (v : Item). constant_of_body items v.body)) found ∙ ap (option_and_then (λ n. constant_word n c)) body_width ∙ f.constant (width_of full t.id));
  state = λ is. absurd (false≢true (sym (ap (is_form is_state) says ∙ (no_leaf b value).1) ∙ is));
}
  where
    c : Body
    c = renamed r x y z b

    item : Item
    item = named id symbol c

    f : IsForm r b c
    f = renamed_form r x y z b value

    found : find_item items id ≡ Some item
    found = subst (λ (l : List Item). find_item l id ≡ Some item) (sym put.is) (found_last w.items id symbol c put.fresh)

    old_width : width_of_body w.items c ≡ Some (width_of full t.id)
    old_width = ap (option_and_then (sort_width w.items)) f.sort ∙ sort

    width : node_width items id ≡ Some (width_of full t.id)
    width = subst (λ (l : List Item). node_width l id ≡ Some (width_of full t.id)) (sym put.is) (width_last w.items id (width_of full t.id) symbol c put.fresh old_width)

    body_width : width_of_body items c ≡ Some (width_of full t.id)
    body_width = sym (ap (option_and_then (λ (v : Item). width_of_body items v.body)) found) ∙ width

    found_wide : (p : Places) (wide : List Item) → GoesOn full (with_items w items) p wide → find_item wide id ≡ Some item
    found_wide p wide g = subst (λ (l : List Item). find_item l id ≡ Some item) (sym g.is) (find_item-append items g.more id item found)

    HasTheir : Places → List Item → Operand → ℕ → Type 0
    HasTheir p wide o a = HasWord full p wide o a × (node_width wide a ≡ Some (width_of full o.id))

    their : (p : Places) (wide : List Item) → GoesOn full (with_items w items) p wide → (k v : ℕ) → AtPlace (operands b) k (λ a. OperandStands full w (operand a (minus_at minuses k)) v)
        → AtPlace (operands b) k (λ a. HasTheir p wide (operand a (minus_at minuses k)) v)
    their p wide g k v h =
        let back = goes_back full w items (item ∷ []) p wide put.is g in
        at_with (λ a. OperandStands full w (operand a (minus_at minuses k)) v) (λ a. HasTheir p wide (operand a (minus_at minuses k)) v) (operands b) k
        (λ a o. (o.word p wide back, subst (λ (l : List Item). node_width l v ≡ Some (width_of full a)) (sym back.is) (node_width-append w.items back.more v (width_of full a) o.width))) h

-- ---- a form's node is made

-- what stands before
pub record FormReady (full : List FullLine) (w : Writing) (t : FullLine) (b : Body) (minuses : List Bool) (x y z : ℕ) : Type 0 where
  pub model : IsFullModel full
  pub line : IsLine full t
  pub says : t.says ≡ form b minuses
  pub value : is_value b ≡ true
  pub stands : NodesStand full w
  pub at0 : AtPlace (operands b) 0 (λ a. OperandStands full w (operand a (minus_at minuses 0)) x)
  pub at1 : AtPlace (operands b) 1 (λ a. OperandStands full w (operand a (minus_at minuses 1)) y)
  pub at2 : AtPlace (operands b) 2 (λ a. OperandStands full w (operand a (minus_at minuses 2)) z)

pub ready_on : (full : List FullLine) (w : Writing) (items : List Item) (t : FullLine) (b : Body) (minuses : List Bool) (x y z : ℕ) → Extends w.items items [] → FormReady full w t b minuses x y z → FormReady full (with_items w items) t b minuses x y z
ready_on full w items t b minuses x y z e h =
    let g = extends_grows full w items [] h.stands tt e in
    record {
      model = h.model;
      line = h.line;
      says = h.says;
      value = h.value;
      stands = nodes_on full w items g h.stands;
      at0 = at_on full w items (operands b) (minus_at minuses 0) 0 x g h.at0;
      at1 = at_on full w items (operands b) (minus_at minuses 1) 1 y g h.at1;
      at2 = at_on full w items (operands b) (minus_at minuses 2) 2 z g h.at2;
    }

pub ready_sound : (full : List FullLine) (w : Writing) (items : List Item) (t : FullLine) (b c : Body) (minuses : List Bool) (r n x y z : ℕ) → FormReady full w t b minuses x y z → Extends w.items items [] → sort_width items r ≡ Some n
    → n ≡ width_of full t.id → c ≡ renamed r x y z b → IsSound items c
ready_sound full w items t b c minuses r n x y z h e sort same is =
    let k = ready_on full w items t b minuses x y z e h in
    subst (IsSound items) (sym is)
    (form_sound full t b minuses items r x y z k.model k.line k.says k.value (sort ∙ ap (λ (m : ℕ). Some m) same)
    (at_with (λ a. OperandStands full (with_items w items) (operand a (minus_at minuses 0)) x) (AsWide full items x) (operands b) 0 (λ a o. o.width) k.at0)
    (at_with (λ a. OperandStands full (with_items w items) (operand a (minus_at minuses 1)) y) (AsWide full items y) (operands b) 1 (λ a o. o.width) k.at1)
    (at_with (λ a. OperandStands full (with_items w items) (operand a (minus_at minuses 2)) z) (AsWide full items z) (operands b) 2 (λ a o. o.width) k.at2))

-- a line is put
abbrev pub PutAs : List Item → List Item → Option (List ℕ) → Body → ℕ → Type 0
PutAs old new symbol b id = (new ≡ old ++ named id symbol b ∷ []) × (id ≡ length old + 1) × (find_item old id ≡ None)

pub ready_made : (full : List FullLine) (w : Writing) (items later : List Item) (t : FullLine) (b c : Body) (minuses : List Bool) (r n x y z id : ℕ) (symbol : Option (List ℕ)) → FormReady full w t b minuses x y z → Extends w.items items []
    → sort_width items r ≡ Some n → n ≡ width_of full t.id → c ≡ renamed r x y z b → PutAs items later symbol c id → (leaf : ℕ) → IsMade full w later t leaf id
ready_made full w items later t b c minuses r n x y z id symbol h e sort same is put leaf =
    let k = ready_on full w items t b minuses x y z e h in
    let here : later ≡ items ++ named id symbol (renamed r x y z b) ∷ [] = put.0 ∙ ap (λ (d : Body). items ++ named id symbol d ∷ []) is in
    record {
      node = form_stands full (with_items w items) later t id leaf symbol b minuses r x y z k.stands k.says k.value (record { is = here; number = put.1; fresh = put.2 }) (sort ∙ ap (λ (m : ℕ). Some m) same) k.at0 k.at1 k.at2;
      given = id_given id (length items) put.1;
      grows = grows_on full w items later (extends_grows full w items [] h.stands tt e) (form_grows full (with_items w items) later id symbol b minuses r x y z k.value here k.at0 k.at1 k.at2);
    }

-- a node made behind lines that were made for its operands
pub made_behind : (full : List FullLine) (w : Writing) (items later : List Item) (t : FullLine) (leaf id : ℕ) → Grows full w items → IsMade full (with_items w items) later t leaf id → IsMade full w later t leaf id
made_behind full w items later t leaf id g h = record { node = h.node; given = h.given; grows = grows_on full w items later g h.grows }
