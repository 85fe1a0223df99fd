-- Choices of first words and states.
use Rattle.std.proofs.Common.{◌≡◌, ◌⊎◌, inl, inr, ℕ, ◌+◌, ◌*◌, ◌^◌, ◌<◌, ◌≤◌, Bool, true, false, List, [], ◌∷◌, ◌++◌, length, slice_get, Option, Some, None, is_some, option_and_then, option_map, refl, sym, ap, ap₂, subst, ◌∙◌, arith}
use Rattle.std.specs.List.{AllByRecursion}
use Rattle.std.proofs.lemmas.Bool.{false≢true}
use Rattle.std.proofs.lemmas.Option.{none-some, same_Some}
use Rattle.btor2.specs.declared.item.Item.{Item}
use Rattle.btor2.specs.declared.item.Body.{Body}
use Rattle.btor2.specs.declared.item.Body.TheVariants as body
use Rattle.btor2.specs.Items.{find_item, node_width, sort_width, is_state, sort_bits}
use Rattle.btor2.proofs.AppendLemmas.{some_of, then_parts, node_width-append}
use Rattle.full.specs.Lines.{Operand, second, Says, form, array_sort, read, write, FullLine, operands_of, Sort, words, arrays, line_bits, bits_at, line_sort, is_form, find_line, sort_at, sort_named, sort_of, sort_of_node, sort_size, size_of, width_of, AtInit, init_of}
use Rattle.full.specs.Agreement.{IsFullModel, SaysAgree, element_sort}
use Rattle.full.specs.Cells.{repeat_value}
use Rattle.full.specs.Gives.{GivesWord}
use Rattle.full.specs.Runs.{at_place}
use Rattle.full.specs.WrittenOut.{HasFirstWord}
use Rattle.full.proofs.FullLookUps.{node_on, init_said, init_nodes}
use Rattle.full.proofs.GivesLemmas.{gives_there, carried_state, first_word_of, first_word_cells}
use Rattle.cells.specs.Kept.{IsSound}
use Rattle.cells.specs.Lines.{named, Extends, IsNew}
use Rattle.cells.proofs.SoundLemmas.{sound_ite}
use Rattle.cells.proofs.PlaceLemmas.{found_last, width_last}
use Rattle.writeout.specs.declared.way.Way.TheVariants as way
use Rattle.writeout.specs.Ways.{way_of}
use Rattle.writeout.specs.Writings.{Writing, IsGiven, with_items, Grows}
use Rattle.writeout.specs.Nodes.{OperandStands, LeafStands, NodesStand, IsMade, IsConstantOf, FirstAgrees, FirstWordStands, fills}
use Rattle.writeout.proofs.GrowLemmas.{width_on, nodes_on, settled_on}
use Rattle.writeout.proofs.StepLemmas.{new_is_other, extends_grows}
use Rattle.writeout.proofs.OperandLemmas.{gives_on}
use Rattle.writeout.proofs.LineLemmas.{AgreesAt, agrees_at}
use Rattle.std.proofs.Common.{subst₂}
use Rattle.writeout.proofs.NodeLemmas.{id_given, made_behind}
use Rattle.writeout.proofs.EndLemmas.{all_by_place, state_named}
use Rattle.writeout.proofs.LongerLemmas.{goes_back}

-- ---- indices

bits_sort : (full : List FullLine) (b : Says) (k : ℕ) → line_bits b ≡ Some k → line_sort full b ≡ Some (words k)
bits_sort full (form b minuses) k h = ap (option_map (λ n. words n)) h
bits_sort full (array_sort i e) k h = absurd (none-some k h)
bits_sort full (read s a i) k h = absurd (none-some k h)
bits_sort full (write s a i v) k h = absurd (none-some k h)

bits_of_sort : (full : List FullLine) (id k : ℕ) → bits_at full id ≡ Some k → sort_at full id ≡ Some (words k)
bits_of_sort full id k h =
    let parts = then_parts (λ (x : FullLine). line_bits x.says) (find_line full id) k h in
    ap (option_and_then (λ (x : FullLine). line_sort full x.says)) parts.1 ∙ bits_sort full parts.0.says k parts.2

index_of : Sort → ℕ
index_of (words n) = 0
index_of (arrays k n) = k

words_no_arrays : (o : Option ℕ) (k n : ℕ) → option_map (λ m. words m) o ≡ Some (arrays k n) → ⊥
words_no_arrays None k n h = none-some (arrays k n) h
words_no_arrays (Some m) k n h = absurd (cc)

arrays_index : (full : List FullLine) (b : Says) (k n : ℕ) → line_sort full b ≡ Some (arrays k n) → (i : ℕ) × (bits_at full i ≡ Some k)
unfolding index_of
arrays_index full (form b minuses) k n h = absurd (words_no_arrays (sort_bits b) k n h)
arrays_index full (array_sort i e) k n h =
    let outer = then_parts (λ k. option_map (λ n. arrays k n) (bits_at full e)) (bits_at full i) (arrays k n) h in
    (i, outer.1 ∙ by (bits_at full e) outer.0 outer.2)
  where
    by : (o : Option ℕ) (l : ℕ) → option_map (λ n. arrays l n) o ≡ Some (arrays k n) → Some l ≡ Some k
    by None l h = absurd (none-some (arrays k n) h)
    by (Some m) l h = ap (λ (s : Sort). Some (index_of s)) (same_Some (arrays l m) (arrays k n) h)
arrays_index full (read s a i) k n h = absurd (none-some (arrays k n) h)
arrays_index full (write s a i v) k n h = absurd (none-some (arrays k n) h)

pub index_some : (full : List FullLine) (id k n : ℕ) → ((i : ℕ) (s : Sort) → sort_at full i ≡ Some s → (1 ≤ sort_size s) × (sort_size s ≤ 1048576)) → sort_of_node full id ≡ Some (arrays k n) → 1 ≤ k
index_some full id k n sizes h =
    let line = then_parts (λ (x : FullLine). sort_of full x.says) (find_line full id) (arrays k n) h in
    let sort = then_parts (sort_at full) (sort_named line.0.says) (arrays k n) line.2 in
    let made = then_parts (λ (x : FullLine). line_sort full x.says) (find_line full sort.0) (arrays k n) sort.2 in
    let index = arrays_index full made.0.says k n made.2 in
    (sizes index.0 (words k) (bits_of_sort full index.0 k index.1)).0

-- ---- how an init agrees

pub second_id : (v : ℕ) (minuses : List Bool) → (second v minuses).id ≡ v
second_id v [] = refl
second_id v (m ∷ []) = refl
second_id v (m ∷ n ∷ minuses) = refl

node_full : (full front rest : List FullLine) (x : FullLine) (a : ℕ) → full ≡ front ++ x ∷ rest → is_some (sort_of_node front a) ≡ true → sort_of_node front a ≡ sort_of_node full a
node_full full front rest x a e there =
    let s = some_of (sort_of_node front a) there in
    s.1 ∙ sym (node_on front (x ∷ rest) a s.0 s.1) ∙ ap (λ (l : List FullLine). sort_of_node l a) (sym e)

element_agrees : (full : List FullLine) (t v : ℕ) (o : Option Sort) → sort_of_node full t ≡ o → is_some (sort_of_node full v) ≡ true → sort_of_node full v ≡ element_sort o
    → (k : ℕ) × (n : ℕ) × (sort_of_node full t ≡ Some (arrays k n)) × (sort_of_node full v ≡ Some (words n))
element_agrees full t v None e there h = absurd (false≢true (sym (ap is_some h) ∙ there))
element_agrees full t v (Some (words m)) e there h = absurd (false≢true (sym (ap is_some h) ∙ there))
element_agrees full t v (Some (arrays k n)) e there h = (k, n, e, h)

init_agrees_at : (full : List FullLine) (x : FullLine) (b : Says) → AgreesAt full x → x.says ≡ b → AtInit (FirstAgrees full) b
init_agrees_at full x (form (body.Init s t v) minuses) own says =
    let agrees : SaysAgree own.front (form (body.Init s t v) minuses) = subst (SaysAgree own.front) says own.agrees.agrees in
    let nodes = subst (λ (b : Says). AllByRecursion (λ (o : Operand). is_some (sort_of_node own.front o.id) ≡ true) (operands_of b)) says own.agrees.nodes in
    let there = init_there own.front t v minuses nodes in
    let of_t = node_full full own.front own.rest x t own.is there.0 in
    let of_v = node_full full own.front own.rest x v own.is there.1 in
    subst (λ (i : ℕ). (sort_of_node full i ≡ sort_of_node full t) ⊎ ((k : ℕ) × (n : ℕ) × (sort_of_node full t ≡ Some (arrays k n)) × (sort_of_node full i ≡ Some (words n)))) (sym (second_id v minuses))
    (by agrees.0.1 (λ same. inl (sym of_v ∙ same ∙ sym agrees.0.0 ∙ of_t))
    (λ same. inr (element_agrees full t v (sort_at own.front s) (sym of_t ∙ agrees.0.0) (sym (ap is_some of_v) ∙ there.1) (sym of_v ∙ same))))
  where
    init_there : (front : List FullLine) (t v : ℕ) (minuses : List Bool) → AllByRecursion (λ (o : Operand). is_some (sort_of_node front o.id) ≡ true) (operands_of (form (body.Init s t v) minuses))
        → (is_some (sort_of_node front t) ≡ true) × (is_some (sort_of_node front v) ≡ true)
    init_there front t v [] h = (h.0, h.1.0)
    init_there front t v (m ∷ []) h = (h.0, h.1.0)
    init_there front t v (m ∷ n ∷ minuses) h = (h.0, h.1.0)

    by : {A B C : Type 0} → A ⊎ B → (A → C) → (B → C) → C
    by (inl a) f g = f a
    by (inr b) f g = g b
init_agrees_at full x _ own says = tt

pub init_agrees : (full : List FullLine) (id : ℕ) (o : Operand) → IsFullModel full → init_of full id ≡ Some o → FirstAgrees full id o
init_agrees full id o w e =
    init_said (FirstAgrees full) full id o (all_by_place (λ (x : FullLine). AtInit (FirstAgrees full) x.says) full (λ k x at. init_agrees_at full x x.says (agrees_at full x w (record { place = k; at = at })) refl)) e

pub init_node : (full : List FullLine) (id : ℕ) (o : Operand) → IsFullModel full → init_of full id ≡ Some o → is_some (sort_of_node full o.id) ≡ true
init_node full id o w e = init_said (λ t o. is_some (sort_of_node full o.id) ≡ true) full id o (init_nodes full w) e

-- ---- the first word

fills_both : (s t : Option Sort) → fills s t ≡ true → (k : ℕ) × (n : ℕ) × (m : ℕ) × (s ≡ Some (arrays k n)) × (t ≡ Some (words m))
fills_both None t h = absurd (false≢true h)
fills_both (Some (words n)) t h = absurd (false≢true h)
fills_both (Some (arrays k n)) None h = absurd (false≢true h)
fills_both (Some (arrays k n)) (Some (arrays l m)) h = absurd (false≢true h)
fills_both (Some (arrays k n)) (Some (words m)) h = (k, n, m, refl, refl)

-- a word in each cell
pub record CellsAgree (full : List FullLine) (id : ℕ) (o : Operand) : Type 0 where
  pub k : ℕ
  pub n : ℕ
  pub of_state : sort_of_node full id ≡ Some (arrays k n)
  pub of_value : sort_of_node full o.id ≡ Some (words n)

pub cells_agree : (full : List FullLine) (id : ℕ) (o : Operand) → FirstAgrees full id o → fills (sort_of_node full id) (sort_of_node full o.id) ≡ true → CellsAgree full id o
cells_agree full id o (inl same) h = let both = fills_both (sort_of_node full id) (sort_of_node full o.id) h in absurd (words_no_arrays (Some both.2) both.0 both.1 (sym both.4 ∙ same ∙ both.3))
cells_agree full id o (inr own) h = record { k = own.0; n = own.1; of_state = own.2; of_value = own.3 }

pub same_agrees : (full : List FullLine) (id : ℕ) (o : Operand) → FirstAgrees full id o → fills (sort_of_node full id) (sort_of_node full o.id) ≡ false → sort_of_node full o.id ≡ sort_of_node full id
same_agrees full id o (inl same) h = same
same_agrees full id o (inr own) h = absurd (false≢true (sym h ∙ ap₂ fills own.2 own.3))

pub same_first : (full : List FullLine) (w : Writing) (id : ℕ) (o : Operand) (v : ℕ) → sort_of_node full o.id ≡ sort_of_node full id → OperandStands full w o v → FirstWordStands full w id o v
same_first full w id o v same h = record {
  width = h.width ∙ ap (λ (s : Option Sort). Some (size_of s)) same;
  word = λ p wide g. first_word_of full p wide id v o same (h.word p wide g);
  other = h.other;
}

pub cells_first : (full : List FullLine) (w : Writing) (items : List Item) (id : ℕ) (o : Operand) (v k n r : ℕ) → NodesStand full w → sort_of_node full id ≡ Some (arrays k n) → sort_of_node full o.id ≡ Some (words n) → OperandStands full w o v
    → Extends w.items items (v ∷ []) → IsNew w.items items r → GivesWord items (2 ^ k * n) (λ g. repeat_value n (2 ^ k) (g v)) r → FirstWordStands full (with_items w items) id o r
cells_first full w items id o v k n r stands of_state of_value h e new gives = record {
  width = gives.width ∙ ap (λ (s : Option Sort). Some (size_of s)) (sym of_state);
  word = λ p wide go.
      first_word_cells full p wide id r k n n o of_state of_value
      (λ state input g states inputs frame.
      gives_there wide (2 ^ k * n) (λ g. repeat_value n (2 ^ k) (g v)) r go.model (gives_on full (with_items w items) p wide (2 ^ k * n) (λ g. repeat_value n (2 ^ k) (g v)) r go gives) state input g states inputs frame
      ∙ ap (repeat_value n (2 ^ k)) (h.word p wide (goes_back full w items e.more p wide e.is go) state input g states inputs frame));
  other = new_is_other full w r stands new.0;
}

pub first_grows : (full : List FullLine) (w : Writing) (items : List Item) (id : ℕ) (o : Operand) (v : ℕ) → Grows full w items → FirstWordStands full w id o v → FirstWordStands full (with_items w items) id o v
first_grows full w items id o v g h = record { width = width_on full w items v (width_of full id) g h.width; word = settled_on full w items (λ p wide. HasFirstWord full p wide id o v) g h.word; other = h.other }

-- ---- the choice

pub state_no_constant : (full : List FullLine) (w : Writing) (id a : ℕ) (b : Says) → is_form is_state b ≡ true → IsConstantOf full w id b a
state_no_constant full w id a (form (body.State s) minuses) state = λ there. absurd (false≢true there)
state_no_constant full w id a _ state = absurd (cc)

behind_one : (n id : ℕ) → id ≡ n + 1 → n < id
behind_one n id e = omega (arith, e)

-- what stands before a choice
pub record ChoiceReady (full : List FullLine) (w : Writing) (t : FullLine) (place leaf : ℕ) (o : Operand) (v : ℕ) : Type 0 where
  pub model : IsFullModel full
  pub stands : NodesStand full w
  pub at : slice_get full place ≡ Some t
  pub state : is_form is_state t.says ≡ true
  pub by_first : way_of full t.id ≡ way.First
  pub is_leaf : leaf ≡ at_place w.leaves place
  pub init : init_of full t.id ≡ Some o
  pub first : FirstWordStands full w t.id o v

pub choice_on : (full : List FullLine) (w : Writing) (items : List Item) (t : FullLine) (place leaf : ℕ) (o : Operand) (v : ℕ) → Grows full w items → ChoiceReady full w t place leaf o v → ChoiceReady full (with_items w items) t place leaf o v
choice_on full w items t place leaf o v g h = record {
  model = h.model;
  stands = nodes_on full w items g h.stands;
  at = h.at;
  state = h.state;
  by_first = h.by_first;
  is_leaf = h.is_leaf;
  init = h.init;
  first = first_grows full w items t.id o v g h.first;
}

pub choice_leaf : (full : List FullLine) (w : Writing) (t : FullLine) (place leaf : ℕ) (o : Operand) (v : ℕ) → ChoiceReady full w t place leaf o v → LeafStands full w t leaf
choice_leaf full w t place leaf o v h = subst (LeafStands full w t) (sym h.is_leaf) (h.stands.leaves place t h.at h.state)

pub choice_sound : (full : List FullLine) (w : Writing) (items : List Item) (t : FullLine) (place leaf r n : ℕ) (o : Operand) (v : ℕ) → ChoiceReady full w t place leaf o v → Extends w.items items [] → sort_width items r ≡ Some n
    → n ≡ width_of full t.id → IsSound items (body.Ite r w.first v leaf)
choice_sound full w items t place leaf r n o v h e sort same =
    let k = choice_on full w items t place leaf o v (extends_grows full w items [] h.stands tt e) h in
    let own = choice_leaf full (with_items w items) t place leaf o v k in
    sound_ite items r w.first v leaf (width_of full t.id) (sort ∙ ap (λ (m : ℕ). Some m) same) (k.stands.first (own.first k.by_first)).width k.first.width own.width

abbrev pub PutAs : List Item → List Item → Option (List ℕ) → Body → ℕ → Type 0
PutAs old new symbol b id = (new ≡ old ++ named id symbol b ∷ []) × (id ≡ length old + 1) × (find_item old id ≡ None)

pub choice_put : (full : List FullLine) (w : Writing) (later : List Item) (t : FullLine) (place leaf r : ℕ) (o : Operand) (v id : ℕ) (symbol : Option (List ℕ)) → ChoiceReady full w t place leaf o v → sort_width w.items r ≡ Some (width_of full t.id)
    → PutAs w.items later symbol (body.Ite r w.first v leaf) id → IsMade full w later t leaf id
choice_put full w later t place leaf r o v id symbol h sort put = record {
  node = record {
    width = width;
    carried = λ p wide g here.
        carried_state full p wide t g.model h.state
        (subst₂ (λ (l : List Item) (n : ℕ). node_width l n ≡ Some (width_of full t.id)) (sym g.is) (sym here) (node_width-append later g.more id (width_of full t.id) width));
    other = new_is_other full w id h.stands (behind_one (length w.items) id put.1);
    constant = state_no_constant full (with_items w later) t.id id t.says h.state;
    state = λ is. record {
      as_it_is = λ none. absurd (none h.by_first);
      by_first = λ by other init. record {
        sort = r;
        value = v;
        chooses = (item, found, refl);
        word = λ p wide g. subst (λ (z : Operand). HasFirstWord full p wide t.id z v) (same_Some o other (sym h.init ∙ init)) (h.first.word p wide (goes_back full w later (item ∷ []) p wide put.0 g));
      };
    };
  };
  given = id_given id (length w.items) put.1;
  grows = record {
    more = item ∷ [];
    is = put.0;
    plain = (refl, tt);
    only = λ given p wide g. (
      (
        h.first.other given,
        own.other given,
        λ is. (
          t.id,
          o,
          state_named full place t h.model h.at h.state,
          h.init,
          sym (g.leaves place t h.at (subst (λ (n : ℕ). IsGiven n) h.is_leaf own.given) ∙ sym h.is_leaf),
          h.first.word p wide (goes_back full w later (item ∷ []) p wide put.0 g),
        ),
      ),
      tt,
    );
  };
}
  where
    item : Item
    item = named id symbol (body.Ite r w.first v leaf)

    own : LeafStands full w t leaf
    own = choice_leaf full w t place leaf o v h

    found : find_item later id ≡ Some item
    found = subst (λ (l : List Item). find_item l id ≡ Some item) (sym put.0) (found_last w.items id symbol (body.Ite r w.first v leaf) put.2)

    width : node_width later id ≡ Some (width_of full t.id)
    width = subst (λ (l : List Item). node_width l id ≡ Some (width_of full t.id)) (sym put.0) (width_last w.items id (width_of full t.id) symbol (body.Ite r w.first v leaf) put.2 sort)

pub choice_made : (full : List FullLine) (w : Writing) (items later : List Item) (t : FullLine) (place leaf r n : ℕ) (o : Operand) (v id : ℕ) (symbol : Option (List ℕ)) → ChoiceReady full w t place leaf o v → Extends w.items items []
    → sort_width items r ≡ Some n → n ≡ width_of full t.id → PutAs items later symbol (body.Ite r w.first v leaf) id → IsMade full w later t leaf id
choice_made full w items later t place leaf r n o v id symbol h e sort same put =
    let g = extends_grows full w items [] h.stands tt e in
    made_behind full w items later t leaf id g
    (choice_put full (with_items w items) later t place leaf r o v id symbol (choice_on full w items t place leaf o v g h) (sort ∙ ap (λ (m : ℕ). Some m) same) put)
