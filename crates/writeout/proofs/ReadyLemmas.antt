-- What a model's lines without a value ask of a writing is there.
use Rattle.std.proofs.Common.{◌≡◌, ◌⊎◌, inl, inr, ℕ, suc, zero, Bool, true, List, [], ◌∷◌, ◌++◌, take, drop, slice_get, Option, Some, None, is_some, append_assoc, append-nil, refl, sym, ap, subst, ◌∙◌}
use Rattle.std.specs.List.{AllByRecursion}
use Rattle.std.proofs.lemmas.Option.{none-some, same_Some}
use Rattle.std.proofs.lemmas.List.{take-append-drop}
use Rattle.btor2.specs.declared.item.Body.{Body}
use Rattle.btor2.specs.declared.item.Body.TheVariants as body
use Rattle.btor2.specs.Items.{operands}
use Rattle.btor2.proofs.AppendLemmas.{some_of}
use Rattle.full.specs.Lines.{Operand, operand, Says, form, FullLine, with_minuses, operands_of, second, Sort, words, sort_at, sort_of_node, AtInit, AtNext, init_of, next_of}
use Rattle.full.specs.Agreement.{element_sort, names_full_state, SaysAgree, LineAgrees, IsFullAfter, IsFullModel}
use Rattle.full.proofs.FullLookUps.{node_on, each_nodes, init_nodes, next_nodes, inits_named, nexts_named}
use Rattle.writeout.specs.Forms.{minus_at}
use Rattle.writeout.specs.Needs.{place_of}
use Rattle.writeout.specs.Writings.{Writing}
use Rattle.writeout.specs.LateLines.{StandsAt, HasItsNode, TakesInit, TakesNext}
use Rattle.writeout.proofs.PlaceLemmas.{node_line}
use Rattle.writeout.proofs.EndLemmas.{inits_found}
use Rattle.writeout.proofs.ChoiceLemmas.{second_id}
use Rattle.writeout.proofs.NeedLemmas.{all_get}

-- ---- lines and those before them

agrees_from : (before xs : List FullLine) (k : ℕ) (x : FullLine) → IsFullAfter before xs → slice_get xs k ≡ Some x → LineAgrees (before ++ take k xs) x
agrees_from before [] k x h e = absurd (none-some x e)
agrees_from before (y ∷ ys) zero x h e = subst (λ (z : FullLine). LineAgrees (before ++ []) z) (same_Some y x e) (subst (λ (l : List FullLine). LineAgrees l y) (sym (append-nil before)) h.0)
agrees_from before (y ∷ ys) (suc k) x h e = subst (λ (l : List FullLine). LineAgrees l x) (append_assoc before (y ∷ []) (take k ys)) (agrees_from (before ++ y ∷ []) ys k x h.1 e)

-- a line of a model agrees with those before it
pub agrees_at : (full : List FullLine) (k : ℕ) (x : FullLine) → IsFullModel full → slice_get full k ≡ Some x → LineAgrees (take k full) x
agrees_at full k x m is = agrees_from [] full k x m is

-- the front with one line more
pub take_more : (full : List FullLine) (k : ℕ) (x : FullLine) → slice_get full k ≡ Some x → take (suc k) full ≡ take k full ++ x ∷ []
take_more [] k x e = absurd (none-some x e)
take_more (y ∷ ys) zero x e = ap (λ (z : FullLine). z ∷ []) (same_Some y x e)
take_more (y ∷ ys) (suc k) x e = ap (λ (l : List FullLine). y ∷ l) (take_more ys k x e)

-- the sort of an earlier node is its sort
sort_there : (full : List FullLine) (k id : ℕ) (s : Sort) → sort_of_node (take k full) id ≡ Some s → sort_of_node full id ≡ Some s
sort_there full k id s h = subst (λ (l : List FullLine). sort_of_node l id ≡ Some s) (take-append-drop k full) (node_on (take k full) (drop k full) id s h)

-- ---- operands

pub second_by : (v : ℕ) (minuses : List Bool) → second v minuses ≡ operand v (minus_at minuses 1)
second_by v [] = refl
second_by v (m ∷ []) = refl
second_by v (m ∷ n ∷ more) = refl

pub only_by_place : (a : ℕ) (minuses : List Bool) → with_minuses (a ∷ []) minuses ≡ operand a (minus_at minuses 0) ∷ []
only_by_place a [] = refl
only_by_place a (m ∷ more) = refl

-- a node with a value has its node
pub has_its_node : (full done : List FullLine) (w : Writing) (o : Operand) → StandsAt full done w → is_some (sort_of_node full o.id) ≡ true → HasItsNode full w o
has_its_node full done w o h there =
    let at = node_line full o.id there in
    record { there = there; given = h.each (place_of full o.id) at.line at.at at.value }

-- the operand of a line of one operand
pub shown_ready : (full done : List FullLine) (w : Writing) (k : ℕ) (x : FullLine) (b : Body) (a : ℕ) (minuses : List Bool) → IsFullModel full → StandsAt full done w → slice_get full k ≡ Some x → x.says ≡ form b minuses → operands b ≡ a ∷ []
    → HasItsNode full w (operand a (minus_at minuses 0))
shown_ready full done w k x b a minuses m h is says only =
    let os : operands_of x.says ≡ operand a (minus_at minuses 0) ∷ [] = ap operands_of says ∙ ap (λ (l : List ℕ). with_minuses l minuses) only ∙ only_by_place a minuses in
    let there = subst (λ (l : List Operand). AllByRecursion (λ (o : Operand). is_some (sort_of_node full o.id) ≡ true) l) os
    (all_get (λ (y : FullLine). AllByRecursion (λ (o : Operand). is_some (sort_of_node full o.id) ≡ true) (operands_of y.says)) full k x (each_nodes full m) is) in
    has_its_node full done w (operand a (minus_at minuses 0)) h there.0

-- of a property, which is a word of one bit
pub bad_bit : (full : List FullLine) (k : ℕ) (x : FullLine) (a : ℕ) (minuses : List Bool) → IsFullModel full → slice_get full k ≡ Some x → x.says ≡ form (body.Bad a) minuses → sort_of_node full a ≡ Some (words 1)
bad_bit full k x a minuses m is says =
    let agrees = subst (λ (b : Says). SaysAgree (take k full) b) says (agrees_at full k x m is).agrees in
    sort_there full k a (words 1) agrees.0

pub constraint_bit : (full : List FullLine) (k : ℕ) (x : FullLine) (a : ℕ) (minuses : List Bool) → IsFullModel full → slice_get full k ≡ Some x → x.says ≡ form (body.Constraint a) minuses → sort_of_node full a ≡ Some (words 1)
constraint_bit full k x a minuses m is says =
    let agrees = subst (λ (b : Says). SaysAgree (take k full) b) says (agrees_at full k x m is).agrees in
    sort_there full k a (words 1) agrees.0

-- ---- nexts

-- what is known of a next line
pub record NextKnown (full : List FullLine) (k t v : ℕ) : Type 0 where
  pub state : names_full_state full t ≡ true
  pub value : is_some (sort_of_node full v) ≡ true
  pub sorts : sort_of_node full v ≡ sort_of_node full t
  pub free : next_of (take k full) t ≡ None

sorts_there : (full : List FullLine) (k t v : ℕ) (s : Option Sort) → is_some (sort_of_node (take k full) v) ≡ true → sort_of_node (take k full) t ≡ s → sort_of_node (take k full) v ≡ s → sort_of_node full v ≡ sort_of_node full t
sorts_there full k t v s there et ev =
    let own = some_of (sort_of_node (take k full) v) there in
    sort_there full k v own.0 own.1 ∙ sym (sort_there full k t own.0 (et ∙ sym ev ∙ own.1))

two_there : (lines : List FullLine) (t v : ℕ) (minuses : List Bool) → AllByRecursion (λ (o : Operand). is_some (sort_of_node lines o.id) ≡ true) (with_minuses (t ∷ v ∷ []) minuses) → (is_some (sort_of_node lines t) ≡ true) × (is_some (sort_of_node lines v) ≡ true)
two_there lines t v [] h = (h.0, h.1.0)
two_there lines t v (m ∷ []) h = (h.0, h.1.0)
two_there lines t v (m ∷ n ∷ more) h = (h.0, h.1.0)

pub next_known : (full : List FullLine) (k : ℕ) (x : FullLine) (s t v : ℕ) (minuses : List Bool) → IsFullModel full → slice_get full k ≡ Some x → x.says ≡ form (body.Next s t v) minuses → NextKnown full k t v
next_known full k x s t v minuses m is says =
    let line = agrees_at full k x m is in
    let agrees = subst (λ (b : Says). SaysAgree (take k full) b) says line.agrees in
    let there = two_there (take k full) t v minuses (subst (λ (b : Says). AllByRecursion (λ (o : Operand). is_some (sort_of_node (take k full) o.id) ≡ true) (operands_of b)) says line.nodes) in
    let named : AtNext (λ t o. names_full_state full t ≡ true) (form (body.Next s t v) minuses) = subst (AtNext (λ t o. names_full_state full t ≡ true)) says (all_get (λ (y : FullLine). AtNext (λ t o. names_full_state full t ≡ true) y.says) full k x (nexts_named full m) is) in
    let value : AtNext (λ t o. is_some (sort_of_node full o.id) ≡ true) (form (body.Next s t v) minuses) = subst (AtNext (λ t o. is_some (sort_of_node full o.id) ≡ true)) says (all_get (λ (y : FullLine). AtNext (λ t o. is_some (sort_of_node full o.id) ≡ true) y.says) full k x (next_nodes full m) is) in
    record {
      state = named;
      value = subst (λ (i : ℕ). is_some (sort_of_node full i) ≡ true) (second_id v minuses) value;
      sorts = sorts_there full k t v (sort_at (take k full) s) there.1 agrees.0.0 agrees.0.1;
      free = agrees.3.2;
    }

pub next_ready : (full : List FullLine) (w : Writing) (k : ℕ) (x : FullLine) (s t v : ℕ) (minuses : List Bool) → IsFullModel full → StandsAt full (take k full) w → slice_get full k ≡ Some x → x.says ≡ form (body.Next s t v) minuses
    → TakesNext full w t (operand v (minus_at minuses 1))
next_ready full w k x s t v minuses m h is says =
    let known = next_known full k x s t v minuses m is says in
    record {
      state = known.state;
      value = has_its_node full (take k full) w (operand v (minus_at minuses 1)) h known.value;
      sorts = known.sorts;
      free = h.late.no_next t known.state known.free;
    }

-- ---- inits

pub record InitKnown (full : List FullLine) (k t v : ℕ) (o : Operand) : Type 0 where
  pub state : names_full_state full t ≡ true
  pub value : is_some (sort_of_node full v) ≡ true
  pub init : init_of full t ≡ Some o
  pub sorts : (sort_of_node full v ≡ sort_of_node full t) ⊎ (sort_of_node full v ≡ element_sort (sort_of_node full t))
  pub free : init_of (take k full) t ≡ None

element_there : (full : List FullLine) (k t v : ℕ) (s : Option Sort) → is_some (sort_of_node (take k full) t) ≡ true → is_some (sort_of_node (take k full) v) ≡ true → sort_of_node (take k full) t ≡ s
    → (sort_of_node (take k full) v ≡ s) ⊎ (sort_of_node (take k full) v ≡ element_sort s) → (sort_of_node full v ≡ sort_of_node full t) ⊎ (sort_of_node full v ≡ element_sort (sort_of_node full t))
element_there full k t v s state there et (inl ev) = inl (sorts_there full k t v s there et ev)
element_there full k t v s state there et (inr ev) =
    let own = some_of (sort_of_node (take k full) v) there in
    let its = some_of (sort_of_node (take k full) t) state in
    inr (sort_there full k v own.0 own.1 ∙ sym own.1 ∙ ev ∙ ap element_sort (sym et ∙ its.1 ∙ sym (sort_there full k t its.0 its.1)))

pub init_known : (full : List FullLine) (k : ℕ) (x : FullLine) (s t v : ℕ) (minuses : List Bool) → IsFullModel full → slice_get full k ≡ Some x → x.says ≡ form (body.Init s t v) minuses → InitKnown full k t v (second v minuses)
init_known full k x s t v minuses m is says =
    let line = agrees_at full k x m is in
    let agrees = subst (λ (b : Says). SaysAgree (take k full) b) says line.agrees in
    let there = two_there (take k full) t v minuses (subst (λ (b : Says). AllByRecursion (λ (o : Operand). is_some (sort_of_node (take k full) o.id) ≡ true) (operands_of b)) says line.nodes) in
    let named : AtInit (λ t o. names_full_state full t ≡ true) (form (body.Init s t v) minuses) = subst (AtInit (λ t o. names_full_state full t ≡ true)) says (all_get (λ (y : FullLine). AtInit (λ t o. names_full_state full t ≡ true) y.says) full k x (inits_named full m) is) in
    let value : AtInit (λ t o. is_some (sort_of_node full o.id) ≡ true) (form (body.Init s t v) minuses) = subst (AtInit (λ t o. is_some (sort_of_node full o.id) ≡ true)) says (all_get (λ (y : FullLine). AtInit (λ t o. is_some (sort_of_node full o.id) ≡ true) y.says) full k x (init_nodes full m) is) in
    let found : AtInit (λ t o. init_of full t ≡ Some o) (form (body.Init s t v) minuses) = subst (AtInit (λ t o. init_of full t ≡ Some o)) says (all_get (λ (y : FullLine). AtInit (λ t o. init_of full t ≡ Some o) y.says) full k x (inits_found full m) is) in
    record {
      state = named;
      value = subst (λ (i : ℕ). is_some (sort_of_node full i) ≡ true) (second_id v minuses) value;
      init = found;
      sorts = element_there full k t v (sort_at (take k full) s) there.0 there.1 agrees.0.0 agrees.0.1;
      free = agrees.3.2;
    }

pub init_ready : (full : List FullLine) (w : Writing) (k : ℕ) (x : FullLine) (s t v : ℕ) (minuses : List Bool) → IsFullModel full → StandsAt full (take k full) w → slice_get full k ≡ Some x → x.says ≡ form (body.Init s t v) minuses
    → TakesInit full w t (operand v (minus_at minuses 1))
init_ready full w k x s t v minuses m h is says =
    let known = init_known full k x s t v minuses m is says in
    record {
      state = known.state;
      init = known.init ∙ ap (λ (o : Operand). Some o) (second_by v minuses);
      value = has_its_node full (take k full) w (operand v (minus_at minuses 1)) h known.value;
      sorts = known.sorts;
      free = h.late.no_init t known.state (inl known.free);
    }
