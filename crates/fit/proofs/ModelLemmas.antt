-- Lists of wide items: their ids stand once, and what their init and next lines say of words and widths.
use Rattle.std.proofs.Common.{◌≡◌, ℕ, ◌^◌, ◌<◌, Bool, true, false, cond, not, ◌&&◌, ◌||◌, nat_eq, eqb-true, List, [], ◌∷◌, ◌++◌, Option, Some, None, is_some, is_none, unwrap_or, option_and_then, append_assoc, refl, sym, ap, subst, ◌∙◌, pow_pos}
use Rattle.std.specs.List.{AllByRecursion}
use Rattle.std.specs.Option.{option_or}
use Rattle.std.proofs.lemmas.Option.{none-some, same_Some}
use Rattle.std.proofs.lemmas.Bool.{and_parts, both_ways}
use Rattle.btor2.specs.declared.item.Item.{Item}
use Rattle.btor2.specs.declared.item.Body.{Body}
use Rattle.btor2.specs.declared.item.Body.TheVariants as body
use Rattle.btor2.specs.Items.{find_item, sort_width, node_width, width_of_body, names_state, init_for, next_for, init_value, next_value, constant_word, constant_of_body, constant_of, init_word, is_free, is_input, is_state}
use Rattle.btor2.specs.Check.{id_is_taken, sort_is_missing, operand_is_missing, state_is_none, widths_differ}
use Rattle.btor2.specs.Trace.{Frame, bits_of, InitHolds}
use Rattle.btor2.proofs.AppendLemmas.{names_state-append, node_width-append, then_parts, some_of, none_of, is_some_from}
use Rattle.btor2.proofs.IdLemmas.{AreOthers, AreFresh, input_is_no_state}
use Rattle.btor2.proofs.InitLemmas.{fitting_inputs, fitting_states}
use Rattle.wide.specs.WideModels.{greatest_width, IsWideAfter, IsWideModel}
use Rattle.wide.proofs.GrowLemmas.{tests_false, refusal_at}
use Rattle.full.proofs.PlainLaw.{wide_words_fit}
use Rattle.full.proofs.WideLemmas.{found_by_id, IsInitLine, init_lines, wide_frame_exists, constant_word_there}
use Rattle.fit.specs.Fitting.{is_given, given_ids, init_words}
use Rattle.fit.proofs.ListLemmas.{all_with, to_ids}

abbrev pub IsModel : List Item → Type 0
IsModel items = IsWideModel greatest_width items

-- ---- ids stand once

is_new : (items : List Item) (x : Item) → id_is_taken items x ≡ false → find_item items x.id ≡ None
unfolding id_is_taken
is_new items x h = none_of (find_item items x.id) h

other_id : (front rest : List Item) (x : Item) (id : ℕ) → find_item (front ++ x ∷ rest) id ≡ None → nat_eq id x.id ≡ false
other_id [] rest x id h = by (nat_eq id x.id) refl h
  where
    by : (b : Bool) → nat_eq id x.id ≡ b → cond b (Some x) (find_item rest id) ≡ None → nat_eq id x.id ≡ false
    by true e h = absurd (none-some x (sym h))
    by false e h = e
other_id (z ∷ front) rest x id h = by (nat_eq id z.id) (other_id front rest x id) h
  where
    by : (b : Bool) → (find_item (front ++ x ∷ rest) id ≡ None → nat_eq id x.id ≡ false) → cond b (Some z) (find_item (front ++ x ∷ rest) id) ≡ None → nat_eq id x.id ≡ false
    by true more h = absurd (none-some z (sym h))
    by false more h = more h

others_behind : (front mid xs : List Item) (x : Item) → IsModel (front ++ x ∷ (mid ++ xs)) → AreOthers x xs
others_behind front mid [] x w = tt
others_behind front mid (y ∷ ys) x w =
    let splits : front ++ x ∷ (mid ++ y ∷ ys) ≡ (front ++ x ∷ mid) ++ y ∷ ys = sym (append_assoc front (x ∷ mid) (y ∷ ys)) in
    let accepted = refusal_at greatest_width (front ++ x ∷ mid) ys y (subst IsModel splits w) in (
      other_id front mid x y.id (is_new (front ++ x ∷ mid) y (tests_false greatest_width (front ++ x ∷ mid) y accepted).1.1.0),
      others_behind front (mid ++ y ∷ []) ys x (subst (λ (l : List Item). IsModel (front ++ x ∷ l)) (sym (append_assoc mid (y ∷ []) ys)) w),
    )

fresh_behind : (front xs : List Item) → IsModel (front ++ xs) → AreFresh xs
fresh_behind front [] w = tt
fresh_behind front (x ∷ xs) w = (others_behind front [] xs x w, fresh_behind (front ++ x ∷ []) xs (subst IsModel (sym (append_assoc front (x ∷ []) xs)) w))

pub wide_ids_fresh : (items : List Item) → IsModel items → AreFresh items
wide_ids_fresh items w = fresh_behind [] items w

-- ---- the widths of init and next lines

-- nodes that are there, of one width
pub record SameWidth (items : List Item) (t v : ℕ) : Type 0 where
  pub width : ℕ
  pub of_state : node_width items t ≡ Some width
  pub of_value : node_width items v ≡ Some width

abbrev pub InitAgrees : List Item → Body → Type 0
InitAgrees items (body.Init s t v) = SameWidth items t v
InitAgrees items _ = Unit {0}

abbrev pub NextAgrees : List Item → Body → Type 0
NextAgrees items (body.Next s t v) = SameWidth items t v
NextAgrees items _ = Unit {0}

same_there : (o p : Option ℕ) → is_some o ≡ true → is_some p ≡ true → nat_eq (unwrap_or o 0) (unwrap_or p 0) ≡ true → o ≡ p
same_there None p h k e = absurd (cc)
same_there (Some n) None h k e = absurd (cc)
same_there (Some n) (Some m) h k e = ap (λ (j : ℕ). Some j) (eqb-true n m e)

same_width : (before after : List Item) (s t v : ℕ) → is_some (sort_width before s) ≡ true → is_some (node_width before t) ≡ true → is_some (node_width before v) ≡ true
    → nat_eq (unwrap_or (sort_width before s) 0) (unwrap_or (node_width before t) 0) ≡ true → nat_eq (unwrap_or (sort_width before s) 0) (unwrap_or (node_width before v) 0) ≡ true → SameWidth (before ++ after) t v
same_width before after s t v sort state value h k =
    let width = some_of (sort_width before s) sort in
    record {
      width = width.0;
      of_state = node_width-append before after t width.0 (sym (same_there (sort_width before s) (node_width before t) sort state h) ∙ width.1);
      of_value = node_width-append before after v width.0 (sym (same_there (sort_width before s) (node_width before v) sort value k) ∙ width.1);
    }

not_false : (b : Bool) → not b ≡ false → b ≡ true
not_false true h = refl
not_false false h = absurd (cc)

is_there : (o : Option ℕ) → is_none o ≡ false → is_some o ≡ true
is_there None h = absurd (cc)
is_there (Some n) h = refl

init_agrees : (before after : List Item) (b : Body) → sort_is_missing before b ≡ false → operand_is_missing before b ≡ false → widths_differ before b ≡ false → InitAgrees (before ++ after) b
unfolding sort_is_missing operand_is_missing widths_differ
init_agrees before after (body.Init s t v) sort nodes widths =
    let there = and_parts (is_some (node_width before t)) _ (not_false _ nodes) in
    let other = and_parts (is_some (node_width before v)) true there.1 in
    let agree = and_parts (nat_eq (unwrap_or (sort_width before s) 0) (unwrap_or (node_width before t) 0)) _ (not_false _ widths) in
    same_width before after s t v (is_there (sort_width before s) sort) there.0 other.0 agree.0 agree.1
init_agrees before after _ sort nodes widths = tt

next_agrees : (before after : List Item) (b : Body) → sort_is_missing before b ≡ false → operand_is_missing before b ≡ false → widths_differ before b ≡ false → NextAgrees (before ++ after) b
unfolding sort_is_missing operand_is_missing widths_differ
next_agrees before after (body.Next s t v) sort nodes widths =
    let there = and_parts (is_some (node_width before t)) _ (not_false _ nodes) in
    let other = and_parts (is_some (node_width before v)) true there.1 in
    let agree = and_parts (nat_eq (unwrap_or (sort_width before s) 0) (unwrap_or (node_width before t) 0)) _ (not_false _ widths) in
    same_width before after s t v (is_there (sort_width before s) sort) there.0 other.0 agree.0 agree.1
next_agrees before after _ sort nodes widths = tt

agree_behind : (items front xs : List Item) → items ≡ front ++ xs → IsWideAfter greatest_width front xs → AllByRecursion (λ (x : Item). InitAgrees items x.body × NextAgrees items x.body) xs
agree_behind items front [] e w = tt
agree_behind items front (x ∷ xs) e w =
    let rows = tests_false greatest_width front x w.0 in (
      (
        subst (λ (l : List Item). InitAgrees l x.body) (sym e) (init_agrees front (x ∷ xs) x.body rows.1.1.1.0 rows.1.1.1.1.0 rows.1.1.1.1.1.1.1.1.0),
        subst (λ (l : List Item). NextAgrees l x.body) (sym e) (next_agrees front (x ∷ xs) x.body rows.1.1.1.0 rows.1.1.1.1.0 rows.1.1.1.1.1.1.1.1.0),
      ),
      agree_behind items (front ++ x ∷ []) xs (e ∙ sym (append_assoc front (x ∷ []) xs)) w.1,
    )

-- ---- what a line says of a state that has one

abbrev AtInit : (ℕ → ℕ → Type 0) → Body → Type 0
AtInit P (body.Init s t v) = P t v
AtInit P _ = Unit {0}

abbrev AtNext : (ℕ → ℕ → Type 0) → Body → Type 0
AtNext P (body.Next s t v) = P t v
AtNext P _ = Unit {0}

init_among : (P : ℕ → ℕ → Type 0) (xs : List Item) (id v : ℕ) (b : Body) → AtInit P b → (init_value xs id ≡ Some v → P id v) → option_or (init_for id b) (init_value xs id) ≡ Some v → P id v
init_among P xs id v (body.Init s t u) h rest e = by (nat_eq id t) refl e
  where
    by : (b : Bool) → nat_eq id t ≡ b → option_or (cond b (Some u) None) (init_value xs id) ≡ Some v → P id v
    by true test e = subst (λ (n : ℕ). P id n) (same_Some u v e) (subst (λ (n : ℕ). P n u) (sym (eqb-true id t test)) h)
    by false test e = rest e
init_among P xs id v _ h rest e = rest e

init_is : (P : ℕ → ℕ → Type 0) (xs : List Item) (id v : ℕ) → AllByRecursion (λ (x : Item). AtInit P x.body) xs → init_value xs id ≡ Some v → P id v
init_is P [] id v h e = absurd (none-some v e)
init_is P (x ∷ xs) id v h e = init_among P xs id v x.body h.0 (init_is P xs id v h.1) e

next_among : (P : ℕ → ℕ → Type 0) (xs : List Item) (id v : ℕ) (b : Body) → AtNext P b → (next_value xs id ≡ Some v → P id v) → option_or (next_for id b) (next_value xs id) ≡ Some v → P id v
next_among P xs id v (body.Next s t u) h rest e = by (nat_eq id t) refl e
  where
    by : (b : Bool) → nat_eq id t ≡ b → option_or (cond b (Some u) None) (next_value xs id) ≡ Some v → P id v
    by true test e = subst (λ (n : ℕ). P id n) (same_Some u v e) (subst (λ (n : ℕ). P n u) (sym (eqb-true id t test)) h)
    by false test e = rest e
next_among P xs id v _ h rest e = rest e

next_is : (P : ℕ → ℕ → Type 0) (xs : List Item) (id v : ℕ) → AllByRecursion (λ (x : Item). AtNext P x.body) xs → next_value xs id ≡ Some v → P id v
next_is P [] id v h e = absurd (none-some v e)
next_is P (x ∷ xs) id v h e = next_among P xs id v x.body h.0 (next_is P xs id v h.1) e

at_init : (items : List Item) (b : Body) → InitAgrees items b → AtInit (SameWidth items) b
at_init items (body.Init s t v) h = h
at_init items _ h = tt

at_next : (items : List Item) (b : Body) → NextAgrees items b → AtNext (SameWidth items) b
at_next items (body.Next s t v) h = h
at_next items _ h = tt

-- a state and the value of its init line, or of its next line, have one width
pub init_width : (items : List Item) (t v : ℕ) → IsModel items → init_value items t ≡ Some v → SameWidth items t v
init_width items t v w e =
    init_is (SameWidth items) items t v
    (all_with (λ (x : Item). InitAgrees items x.body × NextAgrees items x.body) (λ (x : Item). AtInit (SameWidth items) x.body) items (λ x both. at_init items x.body both.0) (agree_behind items [] items refl w)) e

pub next_width : (items : List Item) (t v : ℕ) → IsModel items → next_value items t ≡ Some v → SameWidth items t v
next_width items t v w e =
    next_is (SameWidth items) items t v
    (all_with (λ (x : Item). InitAgrees items x.body × NextAgrees items x.body) (λ (x : Item). AtNext (SameWidth items) x.body) items (λ x both. at_next items x.body both.1) (agree_behind items [] items refl w)) e

of_state : (items : List Item) (b : Body) → IsInitLine items b → AtInit (λ t v. names_state items t ≡ true) b
of_state items (body.Init s t v) h = h.0
of_state items _ h = tt

-- an init line is one of a state
pub init_names_state : (items : List Item) (t v : ℕ) → IsModel items → init_value items t ≡ Some v → names_state items t ≡ true
init_names_state items t v w e =
    init_is (λ t v. names_state items t ≡ true) items t v
    (all_with (λ (x : Item). IsInitLine items x.body) (λ (x : Item). AtInit (λ t v. names_state items t ≡ true) x.body) items (λ x line. of_state items x.body line) (init_lines greatest_width items w)) e

next_names : (before after : List Item) (b : Body) → state_is_none before b ≡ false → AtNext (λ t v. names_state (before ++ after) t ≡ true) b
unfolding state_is_none
next_names before after (body.Next s t v) h = names_state-append before after t (not_false (names_state before t) h)
next_names before after _ h = tt

next_names_behind : (items front xs : List Item) → items ≡ front ++ xs → IsWideAfter greatest_width front xs → AllByRecursion (λ (x : Item). AtNext (λ t v. names_state items t ≡ true) x.body) xs
next_names_behind items front [] e w = tt
next_names_behind items front (x ∷ xs) e w = (
  subst (λ (l : List Item). AtNext (λ t v. names_state l t ≡ true) x.body) (sym e) (next_names front (x ∷ xs) x.body (tests_false greatest_width front x w.0).1.1.1.1.1.0),
  next_names_behind items (front ++ x ∷ []) xs (e ∙ sym (append_assoc front (x ∷ []) xs)) w.1,
)

-- so is a next line
pub next_names_state : (items : List Item) (t v : ℕ) → IsModel items → next_value items t ≡ Some v → names_state items t ≡ true
next_names_state items t v w e = next_is (λ t v. names_state items t ≡ true) items t v (next_names_behind items [] items refl w) e

-- ---- leaves whose words are given

-- an id that names no state has no init line and no next line
pub no_state_is_free : (items : List Item) (id : ℕ) → IsModel items → names_state items id ≡ false → is_free items id ≡ true
no_state_is_free items id w none = by (init_value items id) refl (next_value items id) refl
  where
    by : (o : Option ℕ) → init_value items id ≡ o → (n : Option ℕ) → next_value items id ≡ n → (is_none o && is_none n) ≡ true
    by (Some v) e n d = absurd (both_ways (names_state items id) none (init_names_state items id v w e))
    by None e (Some v) d = absurd (both_ways (names_state items id) none (next_names_state items id v w d))
    by None e None d = refl

-- an item that is found by its id names a state by it where it is one
pub found_names : (items : List Item) (x : Item) (b : Bool) → find_item items x.id ≡ Some x → is_state x.body ≡ b → names_state items x.id ≡ b
found_names items x true found is = rw (found, is) refl
found_names items x false found is = rw (found, is) refl

pub given_are_free : (items : List Item) → IsModel items → AllByRecursion (λ k. is_free items k ≡ true) (given_ids items)
given_are_free items w =
    to_ids (λ k. is_free items k ≡ true) (is_given items) items
    (all_with (λ (x : Item). find_item items x.id ≡ Some x) (λ (x : Item). is_given items x ≡ true → is_free items x.id ≡ true) items
    (λ x found. by (is_input x.body) (is_state x.body) (is_free items x.id) (λ e. no_state_is_free items x.id w (found_names items x false found (input_is_no_state x.body e))))
    (found_by_id greatest_width items w))
  where
    by : (i s f : Bool) → (i ≡ true → f ≡ true) → (i || (s && f)) ≡ true → f ≡ true
    by true s f h e = h refl
    by false true f h e = e
    by false false f h e = absurd (cc)

-- ---- initial words

-- the word of a constant node fits its width
constant_fits_bits : (items : List Item) (id word : ℕ) → IsModel items → constant_of items id ≡ Some word → word < 2 ^ bits_of items id
constant_fits_bits items id word w e =
    let parts = then_parts (λ (x : Item). constant_of_body items x.body) (find_item items id) word e in
    let width = then_parts (λ (n : ℕ). constant_word n parts.0.body) (width_of_body items parts.0.body) word parts.2 in
    let there : node_width items id ≡ Some width.0 = ap (option_and_then (λ (x : Item). width_of_body items x.body)) parts.1 ∙ width.1 in
    let zero : Frame = λ k. 0 in
    let some = wide_frame_exists greatest_width items zero zero w in
    let below = wide_words_fit items zero zero some.0 w (fitting_states items zero (λ k. pow_pos (bits_of items k)) items) (fitting_inputs items zero (λ k. pow_pos (bits_of items k)) items) some.1 id (is_some_from (node_width items id) width.0 there) in
    subst (λ (n : ℕ). n < 2 ^ bits_of items id) (constant_word_there items zero zero some.0 id word e some.1) below

init_word_fits : (items : List Item) (id c : ℕ) → IsModel items → init_word items id ≡ Some c → c < 2 ^ bits_of items id
init_word_fits items id c w e =
    let parts = then_parts (constant_of items) (init_value items id) c e in
    let of = init_width items id parts.0 w parts.1 in
    let wide : bits_of items parts.0 ≡ bits_of items id = ap (λ (o : Option ℕ). unwrap_or o 0) (of.of_value ∙ sym of.of_state) in
    subst (λ (n : ℕ). c < 2 ^ n) wide (constant_fits_bits items parts.0 c w parts.2)

-- the word that a state begins with fits, 0 where there is none
pub init_words_fit : (items : List Item) (id : ℕ) → IsModel items → init_words items id < 2 ^ bits_of items id
init_words_fit items id w = by (init_word items id) refl
  where
    by : (o : Option ℕ) → init_word items id ≡ o → unwrap_or o 0 < 2 ^ bits_of items id
    by None e = pow_pos (bits_of items id)
    by (Some c) e = init_word_fits items id c w e

init_line_holds : (items : List Item) (state : Frame) (b : Body) → ((t v : ℕ) → init_value items t ≡ Some v → constant_of items v ≡ Some (state t)) → IsInitLine items b → InitHolds items state b
init_line_holds items state (body.Init s t v) says h = says t v h.1
init_line_holds items state _ says h = tt

-- init lines hold where each state with one has its word
pub wide_inits_hold : (items : List Item) (state : Frame) → IsModel items → ((t v : ℕ) → init_value items t ≡ Some v → constant_of items v ≡ Some (state t)) → AllByRecursion (λ (x : Item). InitHolds items state x.body) items
wide_inits_hold items state w says =
    all_with (λ (x : Item). IsInitLine items x.body) (λ (x : Item). InitHolds items state x.body) items (λ x line. init_line_holds items state x.body says line) (init_lines greatest_width items w)
