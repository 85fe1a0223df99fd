-- A word that a state begins with and that is not its init line's is one of a state of the model of which something else is told.
use Rattle.std.proofs.Common.{◌≡◌, ℕ, zero, suc, ◌+◌, ◌-◌, ◌<◌, ◌≤◌, ◌⊎◌, Bool, true, false, cond, not, ◌&&◌, ◌||◌, eq-eqb, List, [], ◌∷◌, ◌++◌, map, flat_map, length, slice_get, Option, Some, None, is_none, unwrap_or, refl, sym, ap, ap₂, subst, ◌∙◌, inl, inr, ⊎_elim, arith}
use Rattle.std.specs.List.{AllByRecursion, position_from}
use Rattle.std.specs.Option.{option_or}
use Rattle.std.proofs.lemmas.Bool.{true≢false, lt-ltb, le-ltb}
use Rattle.std.proofs.lemmas.Option.{none-some, same_Some}
use Rattle.btor2.specs.declared.item.Item.{Item}
use Rattle.btor2.specs.Items.{is_input, is_state, is_free, is_carried_state, names_state, init_value, init_word}
use Rattle.btor2.specs.Lists.{of_kind}
use Rattle.btor2.proofs.IdLemmas.{state_item}
use Rattle.wide.specs.WideModels.{greatest_width, IsWideModel}
use Rattle.full.specs.Lines.{Sort}
use Rattle.full.proofs.ListLemmas.{all_at, all_of}
use Rattle.fit.specs.Fitting.{Layout, ids_of, is_given, given_ids, carried_ids, IsFittingOf}
use Rattle.fit.proofs.ListLemmas.{all_with, all_pieces, of_ids, to_ids}
use Rattle.fit.proofs.ModelLemmas.{given_are_free}
use Rattle.witness.specs.Judgements.{Words, given_to, initial_part, initial_words, differs, first_different}
use Rattle.rejoin.proofs.PlaceLemmas.{place_map}
use Rattle.fulljudge.specs.Shapes.{Leaf, word_count, first_index, value_of_word}
use Rattle.fulljudge.proofs.CelledLemmas.{carried_absence}

-- ---- places

-- what is found stands somewhere and passes
pub record FoundAt (test : ℕ → Bool) (xs : List ℕ) (k : ℕ) : Type 0 where
  pub before : List ℕ
  pub after : List ℕ
  pub one : ℕ
  pub is : xs ≡ before ++ one ∷ after
  pub at : length before ≡ k
  pub passes : test one ≡ true

found_from : (test : ℕ → Bool) (n k : ℕ) (xs : List ℕ) → position_from test n xs ≡ Some k → (j : ℕ) × (n + j ≡ k) × FoundAt test xs j
found_from test n k [] e = absurd (none-some k e)
found_from test n k (x ∷ xs) e = by (test x) refl e (found_from test (n + 1) k xs)
  where
    by : (b : Bool) → test x ≡ b → cond b (Some n) (position_from test (n + 1) xs) ≡ Some k → (position_from test (n + 1) xs ≡ Some k → (j : ℕ) × (n + 1 + j ≡ k) × FoundAt test xs j) → (j : ℕ) × (n + j ≡ k) × FoundAt test (x ∷ xs) j
    by true t e more = (0, omega (arith, same_Some n k e), record { before = []; after = xs; one = x; is = refl; at = refl; passes = t })
    by false t e more =
        let rest = more e in
        let found = rest.2 in
        (suc rest.0, omega (arith, rest.1), record { before = x ∷ found.before; after = found.after; one = found.one; is = ap (λ (l : List ℕ). x ∷ l) found.is; at = ap (λ (n : ℕ). suc n) found.at; passes = found.passes })

pub found_at : (test : ℕ → Bool) (k : ℕ) (xs : List ℕ) → position_from test 0 xs ≡ Some k → FoundAt test xs k
found_at test k xs e = let found = found_from test 0 k xs e in subst (FoundAt test xs) (omega (arith, found.1)) found.2

pub get_at : (before after : List ℕ) (q : ℕ) → slice_get (before ++ q ∷ after) (length before) ≡ Some q
get_at [] after q = refl
get_at (x ∷ before) after q = get_at before after q

get_either : (xs ys : List ℕ) (k q : ℕ) → slice_get (xs ++ ys) k ≡ Some q → ((k < length xs) × (slice_get xs k ≡ Some q)) ⊎ ((j : ℕ) × (k ≡ length xs + j) × (slice_get ys j ≡ Some q))
get_either [] ys k q e = inr (k, omega arith, e)
get_either (x ∷ xs) ys zero q e = inl (omega arith, e)
get_either (x ∷ xs) ys (suc k) q e = ⊎_elim (λ h. inl (omega (arith, h.0), h.1)) (λ h. inr (h.0, omega (arith, h.1), h.2)) (get_either xs ys k q e)

-- the leaf that a word is of
pub record Located (pieces : Leaf → List ℕ) (leaves : List Leaf) (k q : ℕ) : Type 0 where
  pub place : ℕ
  pub leaf : Leaf
  pub word : ℕ
  pub there : slice_get leaves place ≡ Some leaf
  pub inside : slice_get (pieces leaf) word ≡ Some q
  pub within : word < word_count leaf.sort
  pub is : k ≡ first_index (map (λ (l : Leaf). l.sort) leaves) place + word
  pub owner : value_of_word (map (λ (l : Leaf). l.sort) leaves) k ≡ place

owner_here : (s : Sort) (ss : List Sort) (k : ℕ) → k < word_count s → value_of_word (s ∷ ss) k ≡ 0
owner_here s ss k h = ap (λ (b : Bool). cond b 0 (suc (value_of_word ss (k - word_count s)))) (lt-ltb k (word_count s) h)

owner_later : (s : Sort) (ss : List Sort) (k j : ℕ) → k ≡ word_count s + j → value_of_word (s ∷ ss) k ≡ suc (value_of_word ss j)
owner_later s ss k j e =
    let beyond : word_count s ≤ k = omega (arith, e) in
    let rest : k - word_count s ≡ j = omega (arith, e) in
    ap (λ (b : Bool). cond b 0 (suc (value_of_word ss (k - word_count s)))) (le-ltb k (word_count s) beyond) ∙ ap (λ (n : ℕ). suc (value_of_word ss n)) rest

pub located : (pieces : Leaf → List ℕ) (leaves : List Leaf) (k q : ℕ) → AllByRecursion (λ (l : Leaf). length (pieces l) ≡ word_count l.sort) leaves → slice_get (flat_map pieces leaves) k ≡ Some q → Located pieces leaves k q
located pieces [] k q counts e = absurd (none-some q e)
located pieces (l ∷ leaves) k q counts e = by (get_either (pieces l) (flat_map pieces leaves) k q e) (λ j. located pieces leaves j q counts.1)
  where
    sorts : List Sort
    sorts = map (λ (m : Leaf). m.sort) leaves

    by : ((k < length (pieces l)) × (slice_get (pieces l) k ≡ Some q)) ⊎ ((j : ℕ) × (k ≡ length (pieces l) + j) × (slice_get (flat_map pieces leaves) j ≡ Some q))
        → ((j : ℕ) → slice_get (flat_map pieces leaves) j ≡ Some q → Located pieces leaves j q) → Located pieces (l ∷ leaves) k q
    by (inl here) more =
        let within : k < word_count l.sort = subst (λ (n : ℕ). k < n) counts.0 here.0 in
        record { place = 0; leaf = l; word = k; there = refl; inside = here.1; within = within; is = omega arith; owner = owner_here l.sort sorts k within }
    by (inr later) more =
        let rest = more later.0 later.2 in
        let behind : k ≡ word_count l.sort + later.0 = later.1 ∙ ap (λ (n : ℕ). n + later.0) counts.0 in
        record {
          place = suc rest.place;
          leaf = rest.leaf;
          word = rest.word;
          there = rest.there;
          inside = rest.inside;
          within = rest.within;
          is = omega (arith, behind, rest.is);
          owner = owner_later l.sort sorts k later.0 behind ∙ ap (λ (n : ℕ). suc n) rest.owner;
        }

-- ---- init lines

-- the words of a free state are free, and those of another are not
pub free_pieces : (wide celled : List Item) (layout : Layout) → IsFittingOf wide layout celled → IsWideModel greatest_width celled → (a : ℕ) → names_state wide a ≡ true → is_free wide a ≡ true → AllByRecursion (λ q. is_free celled q ≡ true) (layout a)
free_pieces wide celled layout fits model a names free =
    let found = state_item wide a names in
    let x : Item = found.0 in
    let inside = found.1 in
    let pieces = all_pieces (λ q. is_free celled q ≡ true) layout (given_ids wide) (subst (AllByRecursion (λ q. is_free celled q ≡ true)) (sym fits.given) (given_are_free celled model)) in
    let all = subst (AllByRecursion (λ (y : Item). is_given wide y ≡ true → AllByRecursion (λ q. is_free celled q ≡ true) (layout y.id))) inside.splits (of_ids (λ k. AllByRecursion (λ q. is_free celled q ≡ true) (layout k)) (is_given wide) wide pieces) in
    subst (λ (k : ℕ). AllByRecursion (λ q. is_free celled q ≡ true) (layout k)) (sym found.2)
    (all_at (λ (y : Item). is_given wide y ≡ true → AllByRecursion (λ q. is_free celled q ≡ true) (layout y.id)) inside.before inside.after x all
    (given_state (is_input x.body) (is_state x.body) (is_free wide x.id) found.3 (ap (is_free wide) (sym found.2) ∙ free)))
  where
    given_state : (i s f : Bool) → s ≡ true → f ≡ true → (i || (s && f)) ≡ true
    given_state true s f e d = refl
    given_state false true true e d = refl
    given_state false true false e d = absurd (cc d)
    given_state false false f e d = absurd (cc e)

carried_are_not : (items : List Item) → AllByRecursion (λ k. is_free items k ≡ false) (carried_ids items)
carried_are_not items = to_ids (λ k. is_free items k ≡ false) (is_carried_state items) items (all_of (λ (x : Item). is_carried_state items x ≡ true → is_free items x.id ≡ false) items (λ x. by (is_state x.body) (is_free items x.id)))
  where
    by : (s f : Bool) → (s && not f) ≡ true → f ≡ false
    by true false e = refl
    by true true e = absurd (cc e)
    by false f e = absurd (cc e)

pub carried_pieces : (wide celled : List Item) (layout : Layout) → IsFittingOf wide layout celled → (a : ℕ) → names_state wide a ≡ true → is_free wide a ≡ false → AllByRecursion (λ q. is_free celled q ≡ false) (layout a)
carried_pieces wide celled layout fits a names carried =
    let found = state_item wide a names in
    let x : Item = found.0 in
    let inside = found.1 in
    let pieces = all_pieces (λ q. is_free celled q ≡ false) layout (carried_ids wide) (subst (AllByRecursion (λ q. is_free celled q ≡ false)) (sym fits.carried) (carried_are_not celled)) in
    let all = subst (AllByRecursion (λ (y : Item). is_carried_state wide y ≡ true → AllByRecursion (λ q. is_free celled q ≡ false) (layout y.id))) inside.splits (of_ids (λ k. AllByRecursion (λ q. is_free celled q ≡ false) (layout k)) (is_carried_state wide) wide pieces) in
    let free : is_free wide x.id ≡ false = ap (is_free wide) (sym found.2) ∙ carried in
    subst (λ (k : ℕ). AllByRecursion (λ q. is_free celled q ≡ false) (layout k)) (sym found.2)
    (all_at (λ (y : Item). is_carried_state wide y ≡ true → AllByRecursion (λ q. is_free celled q ≡ false) (layout y.id)) inside.before inside.after x all (rw (found.3, free) refl))

-- a state without an init line has words without one
free_absence : (wide celled : List Item) (layout : Layout) → IsFittingOf wide layout celled → IsWideModel greatest_width celled → (a : ℕ) → names_state wide a ≡ true → is_free wide a ≡ true → AllByRecursion (λ q. init_value celled q ≡ None) (layout a)
free_absence wide celled layout fits model a names free =
    all_with (λ q. is_free celled q ≡ true) (λ q. init_value celled q ≡ None) (layout a) (λ q e. no_init (init_value celled q) _ e) (free_pieces wide celled layout fits model a names free)
  where
    no_init : (o : Option ℕ) (b : Bool) → (is_none o && b) ≡ true → o ≡ None
    no_init None b e = refl
    no_init (Some v) b e = absurd (cc e)

pub absence : (wide celled : List Item) (layout : Layout) → IsFittingOf wide layout celled → IsWideModel greatest_width celled → (a : ℕ) → names_state wide a ≡ true → init_value wide a ≡ None → AllByRecursion (λ q. init_value celled q ≡ None) (layout a)
absence wide celled layout fits model a names none = by (is_free wide a) refl
  where
    by : (b : Bool) → is_free wide a ≡ b → AllByRecursion (λ q. init_value celled q ≡ None) (layout a)
    by true free = free_absence wide celled layout fits model a names free
    by false carried = carried_absence wide celled layout fits a names carried none

-- ---- a word that differs

pub record WordDiffers (celled : List Item) (w : Words) (k : ℕ) : Type 0 where
  pub found : FoundAt (λ q. differs (init_word celled q) (initial_words celled w q)) (ids_of (λ x. is_state x.body) celled) k
  pub constant : ℕ
  pub told : ℕ
  pub begins : init_word celled found.one ≡ Some constant
  pub given : given_to is_state celled (initial_part w.frames) found.one ≡ Some told
  pub other : told ≡ constant → ⊥

differs_parts : (o : Option ℕ) (x : ℕ) → differs o x ≡ true → (c : ℕ) × (o ≡ Some c) × (c ≡ x → ⊥)
differs_parts None x e = absurd (cc e)
differs_parts (Some c) x e = (c, refl, λ same. true≢false (sym e ∙ ap not (eq-eqb c x same)))

pub word_differs : (celled : List Item) (w : Words) (k : ℕ) → first_different celled (initial_words celled w) ≡ Some k → WordDiffers celled w k
word_differs celled w k e =
    let found = found_at (λ q. differs (init_word celled q) (initial_words celled w q)) k (ids_of (λ x. is_state x.body) celled)
    (sym (place_map (λ q. differs (init_word celled q) (initial_words celled w q)) (λ (x : Item). x.id) 0 (of_kind is_state celled)) ∙ e) in
    by found (differs_parts (init_word celled found.one) (initial_words celled w found.one) found.passes) (given_to is_state celled (initial_part w.frames) found.one) refl
  where
    by : (found : FoundAt (λ q. differs (init_word celled q) (initial_words celled w q)) (ids_of (λ x. is_state x.body) celled) k) → (c : ℕ) × (init_word celled found.one ≡ Some c) × (c ≡ initial_words celled w found.one → ⊥)
        → (o : Option ℕ) → given_to is_state celled (initial_part w.frames) found.one ≡ o → WordDiffers celled w k
    by found parts None e = absurd (parts.2 (sym (ap (λ (i : Option ℕ). unwrap_or i 0) (sym (ap₂ (λ (a b : Option ℕ). option_or a b) (sym e) (sym parts.1))))))
    by found parts (Some v) e =
        record { found = found; constant = parts.0; told = v; begins = parts.1; given = e; other = λ same. parts.2 (sym same ∙ ap (λ (o : Option ℕ). unwrap_or (option_or o (init_word celled found.one)) 0) (sym e)) }
