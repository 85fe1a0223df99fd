-- A list of wide items in which each state with an init line has a next line is written out as itself.
use Rattle.std.proofs.Common.{◌≡◌, ℕ, ◌*◌, ◌^◌, ◌<◌, Bool, true, false, cond, not, ◌&&◌, nat_le, nat_lt, arith, nat_eq, eqb-true, List, [], ◌∷◌, ◌++◌, map, flat_map, length, append-nil, Option, Some, None, is_some, IfSome, unwrap_or, option_map, option_and_then, refl, sym, ap, ap₂, subst, ◌∙◌, inl, inr}
use Rattle.std.specs.List.{AllByRecursion, AllZip}
use Rattle.std.proofs.lemmas.Option.{none-some, same_Some}
use Rattle.std.proofs.lemmas.Bool.{and_parts, leb-true, le-leb}
use Rattle.std.proofs.lemmas.Bool.Decides.{nat_tests}
use Rattle.base.specs.Operator.{unary_value, binary_value, sext_value, concat_value}
use Rattle.btor2.specs.declared.item.Item.{Item}
use Rattle.btor2.specs.declared.item.Body.{Body}
use Rattle.btor2.specs.declared.item.Body.TheVariants as body
use Rattle.btor2.specs.Items.{find_item, is_input, is_state, is_bad, is_constraint, operands, named_sort, sort_width, node_width, names_state, is_free, constant_word, constant_of, init_value, next_value}
use Rattle.btor2.specs.Lists.{of_kind, first_init_without_next}
use Rattle.btor2.specs.Trace.{Frame, bits_of, line_word, LineHolds, IsFrame, InputFits, StateFits, IsInput, IsState}
use Rattle.btor2.specs.Reachability.{nodes_of, CanRise}
use Rattle.btor2.proofs.AppendLemmas.{some_of}
use Rattle.btor2.proofs.IdLemmas.{state_item}
use Rattle.btor2.proofs.InitLemmas.{init_not_free}
use Rattle.btor2.proofs.NextLemmas.{has_next}
use Rattle.btor2.specs.declared.fault.PushFault.{PushFault}
use Rattle.btor2.specs.Check.{first_row, IsWellFormed}
use Rattle.wide.specs.WideModels.{greatest_width, width_is_above, constant_fits_within, constant_is_above, wide_table, wide_refusal, IsWideAfter, IsWideModel}
use Rattle.wide.proofs.GrowLemmas.{AllFalse, tests_false}
use Rattle.wide.proofs.LawLemmas.{models_are}
use Rattle.full.specs.Lines.{plain, form, FullLine, with_minuses, operands_of, full_nodes, full_ids, lines_of, words, sort_of_node, width_of, AtInit, AtNext}
use Rattle.full.specs.Runs.{in_each_cell, first_word, word_of_line, LineSays, IsFullFrame, CanRiseFull}
use Rattle.full.specs.WrittenOut.{IsCarried, HasWord, LeafIsWritten, IsNoOther, InitIsWritten, NextIsWritten, is_output, IsWrittenOut}
use Rattle.full.specs.Plain.{plain_line, plain_lines, same_places}
use Rattle.full.proofs.ListLemmas.{all_with}
use Rattle.full.proofs.WideLemmas.{found_by_id, IsInitLine, init_lines, IsNextLine, next_lines, line_found, constant_word_there}
use Rattle.full.proofs.PlainLemmas.{plain_node, plain_width, plain_init, plain_next, plain_named, plain_is_model}
use Rattle.full.proofs.FitLemmas.{words_fit}
use Rattle.full.proofs.UpLemmas.{up}
use Rattle.full.proofs.TraceLemmas.{down}

-- ---- words of lines

constants : (items : List Item) (id : ℕ) (b : Body) → constant_word (width_of (plain_lines items) id) b ≡ constant_word (bits_of items id) b
constants items id b = ap (λ (n : ℕ). constant_word n b) (plain_width items id)

-- a line that is no leaf gives the word that it gives in a trace
pub plain_word : (items : List Item) (state input f : Frame) (id : ℕ) (b : Body) → is_input b ≡ false → is_state b ≡ false → word_of_line (plain_lines items) f id (form b []) ≡ line_word items state input f id b
plain_word items state input f id (body.Input s) no_input no_state = absurd (cc)
plain_word items state input f id (body.State s) no_input no_state = absurd (cc)
plain_word items state input f id (body.Uext s a by) no_input no_state = refl
plain_word items state input f id (body.Sext s a by) no_input no_state = ap (λ (n : ℕ). Some (sext_value n (f a) by)) (plain_width items a)
plain_word items state input f id (body.Slice s a u l) no_input no_state = refl
plain_word items state input f id (body.Unary op s a) no_input no_state = ap (λ (n : ℕ). Some (unary_value op n (f a))) (plain_width items a)
plain_word items state input f id (body.Binary op s a b) no_input no_state = ap (λ (n : ℕ). Some (binary_value op n (f a) (f b))) (plain_width items a)
plain_word items state input f id (body.Concat s a b) no_input no_state = ap (λ (n : ℕ). Some (concat_value (f a) n (f b))) (plain_width items b)
plain_word items state input f id (body.Ite s c t e) no_input no_state = refl
plain_word items state input f id b no_input no_state = constants items id b

-- ---- lines are carried

found_item : (P : ℕ → Body → Type 0) (items : List Item) (id : ℕ) (x : Item) → find_item items id ≡ Some x → AllByRecursion (λ (y : Item). P y.id y.body) items → P id x.body
found_item P [] id x e h = absurd (none-some x e)
found_item P (y ∷ ys) id x e h = by (nat_eq id y.id) refl e (λ k. found_item P ys id x k h.1)
  where
    by : (b : Bool) → nat_eq id y.id ≡ b → cond b (Some y) (find_item ys id) ≡ Some x → (find_item ys id ≡ Some x → P id x.body) → P id x.body
    by true test e rest = subst (λ (z : Item). P id z.body) (same_Some y x e) (subst (λ (k : ℕ). P k y.body) (sym (eqb-true id y.id test)) h.0)
    by false test e rest = rest e

at_width : (items : List Item) (id v : ℕ) → v < 2 ^ bits_of items id → v < 2 ^ width_of (plain_lines items) id
at_width items id v h = subst (λ (n : ℕ). v < 2 ^ n) (sym (plain_width items id)) h

either_fits : (items : List Item) (id g s i : ℕ) (free : Bool) → (free ≡ false → s < 2 ^ bits_of items id) → (free ≡ true → i < 2 ^ bits_of items id) → g ≡ cond free i s → g < 2 ^ bits_of items id
either_fits items id g s i true carried given e = subst (λ (w : ℕ). w < 2 ^ bits_of items id) (sym e) (given refl)
either_fits items id g s i false carried given e = subst (λ (w : ℕ). w < 2 ^ bits_of items id) (sym e) (carried refl)

line_says : (items : List Item) (state input g : Frame) (id : ℕ) (b : Body) → StateFits items state id b → InputFits items input id b → LineHolds items state input g id b → LineSays (plain_lines items) g id (form b [])
line_says items state input g id (body.Input s) states inputs h = at_width items id (g id) (subst (λ (w : ℕ). w < 2 ^ bits_of items id) (sym h) inputs)
line_says items state input g id (body.State s) states inputs h = at_width items id (g id) (either_fits items id (g id) (state id) (input id) (is_free items id) states inputs h)
line_says items state input g id b states inputs h = subst (λ (o : Option ℕ). IfSome o (λ w. g id ≡ w)) (sym (plain_word items state input g id b refl refl)) h

line_is_carried : (items : List Item) (x : Item) → find_item items x.id ≡ Some x → IsCarried (plain_lines items) same_places items (plain_line x)
line_is_carried items x e state input g states inputs frame =
    line_says items state input g x.id x.body (found_item (StateFits items state) items x.id x e states) (found_item (InputFits items input) items x.id x e inputs) (line_found items state input g x.id x e frame)

map_all : (P : FullLine → Type 0) (xs : List Item) → AllByRecursion (λ (x : Item). P (plain_line x)) xs → AllByRecursion P (plain_lines xs)
map_all P [] h = tt
map_all P (x ∷ xs) h = (h.0, map_all P xs h.1)

lines_are_carried : (items : List Item) → IsWideModel greatest_width items → AllByRecursion (IsCarried (plain_lines items) same_places items) (plain_lines items)
lines_are_carried items w =
    map_all (IsCarried (plain_lines items) same_places items) items
    (all_with (λ (x : Item). find_item items x.id ≡ Some x) (λ (x : Item). IsCarried (plain_lines items) same_places items (plain_line x)) items (line_is_carried items) (found_by_id greatest_width items w))

-- ---- leaves

no_map : {A B : Type 0} (f : A → B) (o : Option A) → option_map f o ≡ None → o ≡ None
no_map f None e = refl
no_map f (Some x) e = absurd (none-some (f x) (sym e))

named_by : (items : List Item) (id : ℕ) (x : Item) → find_item items id ≡ Some x → is_state x.body ≡ true → names_state items id ≡ true
named_by items id x e is = ap (λ (o : Option Item). is_some (option_and_then (λ (y : Item). cond (is_state y.body) (Some y) None) o)) e ∙ ap (λ (b : Bool). is_some (cond b (Some x) None)) is

leaf_is_written : (items : List Item) (x : Item) (b : Body) → x.body ≡ b → find_item items x.id ≡ Some x → LeafIsWritten (plain_lines items) same_places items x.id (form b [])
leaf_is_written items x (body.Input s) is e = ((s, (x, e, is)), sym (plain_width items x.id), refl)
leaf_is_written items x (body.State s) is e = record {
  state = named_by items x.id x e (ap is_state is);
  bits = sym (plain_width items x.id);
  own = refl;
  other = tt;
  no_init = λ none. (refl, no_map plain (init_value items x.id) (sym (plain_init items x.id) ∙ none));
  no_next = λ none. no_map plain (next_value items x.id) (sym (plain_next items x.id) ∙ none);
}
leaf_is_written items x _ is e = tt

no_other_state : (items : List Item) (x : Item) (b : Body) → x.body ≡ b → find_item items x.id ≡ Some x → IsNoOther (plain_lines items) same_places x.id b
no_other_state items x (body.State s) is e = inr (sym (plain_named items x.id) ∙ named_by items x.id x e (ap is_state is), refl)
no_other_state items x _ is e = tt

ids_same : (kind : Body → Bool) (xs : List Item) → map (λ id. id) (full_ids kind (plain_lines xs)) ≡ map (λ (x : Item). x.id) (of_kind kind xs)
ids_same kind [] = refl
ids_same kind (x ∷ xs) = by (kind x.body) (ids_same kind xs)
  where
    by : (b : Bool) → map (λ id. id) (full_ids kind (plain_lines xs)) ≡ map (λ (x : Item). x.id) (of_kind kind xs)
        → map (λ id. id) (map (λ (y : FullLine). y.id) (cond b (plain_line x ∷ lines_of kind (plain_lines xs)) (lines_of kind (plain_lines xs)))) ≡ map (λ (y : Item). y.id) (cond b (x ∷ of_kind kind xs) (of_kind kind xs))
    by true e = ap (λ (l : List ℕ). x.id ∷ l) e
    by false e = e

-- ---- init and next lines

one_of_words : (o p : Option ℕ) (v : ℕ) → in_each_cell (option_map (λ n. words n) o) (option_map (λ n. words n) p) v ≡ v
one_of_words None p v = refl
one_of_words (Some n) p v = refl

first_word_same : (items : List Item) (g : Frame) (t v : ℕ) → first_word (plain_lines items) g t (plain v) ≡ g v
first_word_same items g t v =
    ap₂ (λ s z. in_each_cell s z (g v)) (plain_node items t) (plain_node items v) ∙ one_of_words (node_width items t) (node_width items v) (g v)

goes_on : (items : List Item) (t v : ℕ) → first_init_without_next items items ≡ None → names_state items t ≡ true → init_value items t ≡ Some v → is_some (next_value items t) ≡ true
goes_on items t v none names e =
    let item = state_item items t names in
    let carried = init_not_free items t v e in
    subst (λ (k : ℕ). is_some (next_value items k) ≡ true) (sym item.2)
    (has_next items item.1.before item.1.after item.0 (subst (λ (l : List Item). first_init_without_next items l ≡ None) item.1.splits none) item.3 (ap (is_free items) (sym item.2) ∙ carried))

init_is_written : (items : List Item) (b : Body) → first_init_without_next items items ≡ None → IsInitLine items b → AtInit (InitIsWritten (plain_lines items) same_places items) (form b [])
init_is_written items (body.Init s t v) none line =
    let constant = some_of (constant_of items v) line.2 in
    inl (record {
      same = refl;
      word = constant.0;
      begins = ap (option_and_then (constant_of items)) line.1 ∙ constant.1;
      constant = λ state input g states inputs frame. first_word_same items g t v ∙ constant_word_there items state input g v constant.0 constant.1 frame;
      goes_on = goes_on items t v none line.0 line.1;
    })
init_is_written items _ none line = tt

next_is_written : (items : List Item) (b : Body) → IsNextLine items b → AtNext (NextIsWritten (plain_lines items) same_places items) (form b [])
next_is_written items (body.Next s t v) line = (v, line, λ state input g states inputs frame. refl)
next_is_written items _ line = tt

-- ---- properties

own_words : (items : List Item) (ids : List ℕ) → AllZip (HasWord (plain_lines items) same_places items) (with_minuses ids []) ids
own_words items [] = tt
own_words items (a ∷ more) = ((λ state input g states inputs frame. refl), own_words items more)

zip_join : {A B : Type 0} (P : A → B → Type 0) (as' more : List A) (bs rest : List B) → AllZip P as' bs → AllZip P more rest → AllZip P (as' ++ more) (bs ++ rest)
zip_join P [] more [] rest h k = k
zip_join P [] more (b ∷ bs) rest h k = absurd h
zip_join P (a ∷ as') more [] rest h k = absurd h
zip_join P (a ∷ as') more (b ∷ bs) rest h k = (h.0, zip_join P as' more bs rest h.1 k)

properties_same : (items xs : List Item) (kind : Body → Bool) → AllZip (HasWord (plain_lines items) same_places items) (full_nodes kind (plain_lines xs)) (nodes_of kind xs)
properties_same items [] kind = tt
properties_same items (x ∷ xs) kind = by (kind x.body) (properties_same items xs kind)
  where
    by : (b : Bool) → AllZip (HasWord (plain_lines items) same_places items) (full_nodes kind (plain_lines xs)) (nodes_of kind xs)
        → AllZip (HasWord (plain_lines items) same_places items) (flat_map (λ (y : FullLine). operands_of y.says) (cond b (plain_line x ∷ lines_of kind (plain_lines xs)) (lines_of kind (plain_lines xs))))
        (flat_map (λ (y : Item). operands y.body) (cond b (x ∷ of_kind kind xs) (of_kind kind xs)))
    by true rest = zip_join (HasWord (plain_lines items) same_places items) (with_minuses (operands x.body) []) (full_nodes kind (plain_lines xs)) (operands x.body) (nodes_of kind xs) (own_words items (operands x.body)) rest
    by false rest = rest

-- ---- the whole

pub written_as_itself : (items : List Item) → IsWideModel greatest_width items → first_init_without_next items items ≡ None → IsWrittenOut (plain_lines items) same_places items
written_as_itself items w none =
    let found = found_by_id greatest_width items w in
    record {
      agrees = plain_is_model items w;
      well_formed = w;
      lines = lines_are_carried items w;
      inputs = ids_same is_input items;
      states = append-nil (map same_places.leaf (full_ids is_state (plain_lines items))) ∙ ids_same is_state items;
      leaves = map_all (λ (x : FullLine). LeafIsWritten (plain_lines items) same_places items x.id x.says) items
          (all_with (λ (x : Item). find_item items x.id ≡ Some x) (λ (x : Item). LeafIsWritten (plain_lines items) same_places items x.id (form x.body [])) items (λ x e. leaf_is_written items x x.body refl e) found);
      no_others = all_with (λ (x : Item). find_item items x.id ≡ Some x) (λ (x : Item). IsNoOther (plain_lines items) same_places x.id x.body) items (λ x e. no_other_state items x x.body refl e) found;
      first = tt;
      inits = map_all (λ (x : FullLine). AtInit (InitIsWritten (plain_lines items) same_places items) x.says) items
          (all_with (λ (x : Item). IsInitLine items x.body) (λ (x : Item). AtInit (InitIsWritten (plain_lines items) same_places items) (form x.body [])) items (λ x line. init_is_written items x.body none line) (init_lines greatest_width items w));
      nexts = map_all (λ (x : FullLine). AtNext (NextIsWritten (plain_lines items) same_places items) x.says) items
          (all_with (λ (x : Item). IsNextLine items x.body) (λ (x : Item). AtNext (NextIsWritten (plain_lines items) same_places items) (form x.body [])) items (λ x line. next_is_written items x.body line) (next_lines greatest_width items w));
      bads = properties_same items items is_bad;
      constraints = properties_same items items is_constraint;
      outputs = properties_same items items is_output;
    }

pub meaning_up : (items : List Item) (b : ℕ) → IsWideModel greatest_width items → first_init_without_next items items ≡ None → (h : CanRise items b) → (g : CanRiseFull (plain_lines items) b) × (length g.frames ≡ length h.frames)
meaning_up items b w none h = let made = up (plain_lines items) same_places items b (written_as_itself items w none) h in (made.0, made.1)

pub meaning_down : (items : List Item) (b : ℕ) → IsWideModel greatest_width items → first_init_without_next items items ≡ None → (h : CanRiseFull (plain_lines items) b) → (g : CanRise items b) × (length g.frames ≡ length h.frames)
meaning_down items b w none h = let made = down (plain_lines items) same_places items b (written_as_itself items w none) h in (made.0, made.1)

-- ---- words of wide lists fit

found_same : (items : List Item) (id : ℕ) → is_some (node_width items id) ≡ true → is_some (sort_of_node (plain_lines items) id) ≡ true
found_same items id h = ap is_some (plain_node items id) ∙ by (node_width items id) h
  where
    by : (o : Option ℕ) → is_some o ≡ true → is_some (option_map (λ n. words n) o) ≡ true
    by None h = absurd (cc)
    by (Some n) h = refl

-- in a frame of a wide list from words that fit each node's word fits
pub wide_words_fit : (items : List Item) (state input g : Frame) → IsWideModel greatest_width items → IsState items state → IsInput items input → IsFrame items state input g → (id : ℕ) → is_some (node_width items id) ≡ true
    → g id < 2 ^ bits_of items id
wide_words_fit items state input g w states inputs frame id there =
    let full : IsFullFrame (plain_lines items) g =
    all_with (IsCarried (plain_lines items) same_places items) (λ (x : FullLine). LineSays (plain_lines items) g x.id x.says) (plain_lines items) (λ x carried. carried state input g states inputs frame) (lines_are_carried items w) in
    subst (λ (n : ℕ). g id < 2 ^ n) (plain_width items id) (words_fit (plain_lines items) g (plain_is_model items w) full id (found_same items id there))

-- ---- models of the profile

-- each row's test is false
none_of_rows : (rows : List (Bool × PushFault)) → AllFalse rows → first_row rows ≡ None
none_of_rows [] h = refl
none_of_rows (row ∷ rows) h = ap (λ (b : Bool). cond b (Some row.1) (first_row rows)) h.0 ∙ none_of_rows rows h.1

wider_sort : (b : Body) → width_is_above 64 b ≡ false → width_is_above greatest_width b ≡ false
unfolding width_is_above
wider_sort (body.Sort n) h = grind (arith, nat_tests, h)
wider_sort _ h = h

wider_constant : (n : ℕ) (b : Body) → constant_fits_within 64 n b ≡ true → constant_fits_within greatest_width n b ≡ true
wider_constant n (body.Consth s d v) h =
    let least = and_parts (nat_le 1 d) _ h in
    let most = and_parts (nat_le (4 * d) 67) (nat_lt v (2 ^ n) && nat_lt v (16 ^ d)) least.1 in
    let more : nat_le (4 * d) 1048579 ≡ true = le-leb (4 * d) 1048579 (omega (arith, leb-true (4 * d) 67 most.0)) in
    rw (least.0, more, most.1) refl
wider_constant n _ h = h

not_true : (b : Bool) → not b ≡ false → b ≡ true
not_true true h = refl
not_true false h = absurd (cc)

wider_fit : (items : List Item) (b : Body) → constant_is_above 64 items b ≡ false → constant_is_above greatest_width items b ≡ false
unfolding constant_is_above
wider_fit items b h = ap not (wider_constant (unwrap_or (option_and_then (sort_width items) (named_sort b)) 0) b (not_true _ h))

wider_refusal : (items : List Item) (x : Item) → wide_refusal 64 items x ≡ None → wide_refusal greatest_width items x ≡ None
unfolding wide_refusal
wider_refusal items x h =
    let r = tests_false 64 items x h in
    none_of_rows (wide_table greatest_width items x)
    (r.0, (r.1.0, (r.1.1.0, (r.1.1.1.0, (r.1.1.1.1.0, (r.1.1.1.1.1.0, (wider_sort x.body r.1.1.1.1.1.1.0, (r.1.1.1.1.1.1.1.0, (r.1.1.1.1.1.1.1.1.0, (wider_fit items x.body r.1.1.1.1.1.1.1.1.1.0, r.1.1.1.1.1.1.1.1.1.1))))))))))

wider_after : (before rest : List Item) → IsWideAfter 64 before rest → IsWideAfter greatest_width before rest
wider_after before [] w = tt
wider_after before (x ∷ xs) w = (wider_refusal before x w.0, wider_after (before ++ x ∷ []) xs w.1)

-- a model of the profile is one of wide words
pub profile_is_wide : (items : List Item) → IsWellFormed items → IsWideModel greatest_width items
profile_is_wide items w = wider_after [] items (models_are items w)
