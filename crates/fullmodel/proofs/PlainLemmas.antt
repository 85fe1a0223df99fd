-- The lines of a wide model are accepted.
use Rattle.std.proofs.Common.{◌≡◌, ℕ, ◌+◌, ◌-◌, Bool, true, false, cond, not, ◌&&◌, ◌||◌, nat_le, nat_eq, eqb-true, List, [], ◌∷◌, ◌++◌, length, map, Option, Some, None, is_some, is_none, unwrap_or, option_map, option_and_then, refl, sym, ap, ap₂, subst, ◌∙◌}
use Rattle.std.specs.List.{list_all, zip}
use Rattle.std.specs.Option.{option_map_or}
use Rattle.std.proofs.lemmas.List.{length-map, map-append}
use Rattle.std.proofs.lemmas.Option.{none-some}
use Rattle.std.proofs.lemmas.Bool.{and_parts, and_from, not-false, eq-eqb, or_left}
use Rattle.base.specs.declared.operators.Binary.{Binary}
use Rattle.base.specs.declared.operators.Binary.TheVariants as binary
use Rattle.base.specs.Widths.{unary_width, binary_width, is_of_bits}
use Rattle.btor2.specs.declared.item.Item.{Item}
use Rattle.btor2.specs.declared.item.Body.{Body}
use Rattle.btor2.specs.declared.item.Body.TheVariants as body
use Rattle.btor2.specs.Items.{find_item, named_sort, operands, sort_width, node_width, names_state, init_value, next_value}
use Rattle.btor2.specs.Check.{most_items, id_is_out_of_range as item_out_of_range, id_is_taken as item_taken, sort_is_missing as item_sort_missing, operand_is_missing as item_operand_missing, state_is_none as item_state_none, is_no_slice, slice_is_out_of_range as item_slice, widths_agree, widths_differ, is_second_init as item_second_init, is_second_next as item_second_next, justice_is_empty}
use Rattle.wide.specs.WideModels.{greatest_width, width_is_above, constant_fits_within, constant_is_above, wide_refusal, IsWideAfter, IsWideModel}
use Rattle.wide.proofs.GrowLemmas.{tests_false}
use Rattle.full.specs.Lines.{plain, form, FullLine, Sort, words, arrays, find_line, sort_at, sort_of_node, size_of, is_form, init_of, next_of}
use Rattle.full.specs.Agreement.{is_words, element_sort, names_full_state}
use Rattle.full.specs.Plain.{plain_line, plain_lines}
use Rattle.full.proofs.PlainLemmas.{plain_found, plain_sort, plain_node, plain_init, plain_next, plain_named}
use Rattle.fullmodel.specs.FullModels.{width_in, same_sort, is_bit, ids_of, minuses_of, id_is_out_of_range, id_is_taken, sort_is_missing, operand_is_missing, state_is_none, state_has_minus, minuses_at_words, minus_is_at_array, width_is_out_of_range, is_no_array_sort, is_no_slice_of, slice_is_out_of_range, is_equality, binary_agrees, sorts_agree, sorts_differ, constant_does_not_fit, is_second_init, is_second_next, line_table, line_refusal, IsAcceptedAfter, IsAccepted}
use Rattle.fullmodel.proofs.RowLemmas.{AllFalse, none_first}

-- ---- words

abbrev as_words : Option ℕ → Option Sort
as_words o = option_map (λ n. words n) o

some_words : (o : Option ℕ) → is_some (as_words o) ≡ is_some o
some_words None = refl
some_words (Some n) = refl

none_words : (o : Option ℕ) → is_none (as_words o) ≡ is_none o
none_words None = refl
none_words (Some n) = refl

are_words : (o : Option ℕ) → is_some o ≡ true → is_words (as_words o) ≡ true
are_words None h = absurd (cc)
are_words (Some n) h = refl

width_words : (o : Option ℕ) → width_in (as_words o) ≡ unwrap_or o 0
width_words None = refl
width_words (Some n) = refl

same_words : (o p : Option ℕ) → is_some o ≡ true → is_some p ≡ true → nat_eq (unwrap_or o 0) (unwrap_or p 0) ≡ true → same_sort (as_words o) (as_words p) ≡ true
same_words None p h k e = absurd (cc)
same_words (Some n) None h k e = absurd (cc)
same_words (Some n) (Some m) h k e = e

bit_words : (o : Option ℕ) → is_some o ≡ true → nat_eq (unwrap_or o 0) 1 ≡ true → is_bit (as_words o) ≡ true
bit_words None h e = absurd (cc)
bit_words (Some n) h e = e

slice_words : (o : Option ℕ) (u l : ℕ) → is_no_slice (unwrap_or o 0) u l ≡ false → is_no_slice_of (as_words o) u l ≡ false
slice_words None u l h = refl
slice_words (Some n) u l h = h

flip : (n m : ℕ) → nat_eq n m ≡ true → nat_eq m n ≡ true
flip n m h = eq-eqb m n (sym (eqb-true n m h))

-- ---- sorts of forms

module _ (sort node : ℕ → Option ℕ) where
  abbrev at_sort : ℕ → ℕ
  at_sort s = unwrap_or (sort s) 0

  abbrev at_node : ℕ → ℕ
  at_node a = unwrap_or (node a) 0

  abbrev sort_words : ℕ → Option Sort
  sort_words s = as_words (sort s)

  abbrev node_words : ℕ → Option Sort
  node_words a = as_words (node a)

  two : (o p : Option ℕ) (test : ℕ → ℕ → Bool) → is_some o ≡ true → is_some p ≡ true → test (unwrap_or o 0) (unwrap_or p 0) ≡ true → ((is_words (as_words o) && is_words (as_words p)) && test (width_in (as_words o)) (width_in (as_words p))) ≡ true
  two None p test h k e = absurd (cc)
  two (Some n) None test h k e = absurd (cc)
  two (Some n) (Some m) test h k e = e

  three : (o p q : Option ℕ) (test : ℕ → ℕ → ℕ → Bool) → is_some o ≡ true → is_some p ≡ true → is_some q ≡ true → test (unwrap_or o 0) (unwrap_or p 0) (unwrap_or q 0) ≡ true
      → ((is_words (as_words o) && (is_words (as_words p) && is_words (as_words q))) && test (width_in (as_words o)) (width_in (as_words p)) (width_in (as_words q))) ≡ true
  three None p q test h k l e = absurd (cc)
  three (Some n) None q test h k l e = absurd (cc)
  three (Some n) (Some m) None test h k l e = absurd (cc)
  three (Some n) (Some m) (Some j) test h k l e = e

  abbrev binary_widths : Binary → ℕ → ℕ → ℕ → Bool
  binary_widths op s a b = nat_eq a b && ((not (is_of_bits op) || nat_eq a 1) && nat_eq s (binary_width op a))

  equal : (o p q : Option ℕ) → is_some o ≡ true → is_some p ≡ true → is_some q ≡ true → nat_eq (unwrap_or p 0) (unwrap_or q 0) ≡ true → nat_eq (unwrap_or o 0) 1 ≡ true → (is_bit (as_words o) && same_sort (as_words p) (as_words q)) ≡ true
  equal o p q h k l same one = and_from (is_bit (as_words o)) (same_sort (as_words p) (as_words q)) (bit_words o h one) (same_words p q k l same)

  of_binary : (op : Binary) (o p q : Option ℕ) → is_some o ≡ true → is_some p ≡ true → is_some q ≡ true → binary_widths op (unwrap_or o 0) (unwrap_or p 0) (unwrap_or q 0) ≡ true → binary_agrees op (as_words o) (as_words p) (as_words q) ≡ true
  of_binary binary.Eq o p q h k l e = let parts = and_parts (nat_eq (unwrap_or p 0) (unwrap_or q 0)) _ e in equal o p q h k l parts.0 parts.1
  of_binary binary.Neq o p q h k l e = let parts = and_parts (nat_eq (unwrap_or p 0) (unwrap_or q 0)) _ e in equal o p q h k l parts.0 parts.1
  of_binary op o p q h k l e = three o p q (binary_widths op) h k l e

  all_bits : (ids : List ℕ) → list_all (λ a. is_some (node a)) ids ≡ true → list_all (λ a. nat_eq (at_node a) 1) ids ≡ true → list_all (λ a. is_bit (node_words a)) ids ≡ true
  all_bits [] h e = refl
  all_bits (a ∷ ids) h e =
      let there = and_parts (is_some (node a)) _ h in
      let one = and_parts (nat_eq (at_node a) 1) _ e in
      and_from (is_bit (node_words a)) _ (bit_words (node a) there.0 one.0) (all_bits ids there.1 one.1)

  agree : (b : Body) → ((s : ℕ) → named_sort b ≡ Some s → is_some (sort s) ≡ true) → list_all (λ a. is_some (node a)) (operands b) ≡ true → widths_agree at_sort at_node b ≡ true → sorts_agree sort_words node_words b ≡ true
  agree (body.Sort n) s h e = refl
  agree (body.Input t) s h e = refl
  agree (body.State t) s h e = refl
  agree (body.Zero t) s h e = are_words (sort t) (s t refl)
  agree (body.One t) s h e = are_words (sort t) (s t refl)
  agree (body.Ones t) s h e = are_words (sort t) (s t refl)
  agree (body.Const t d v) s h e = are_words (sort t) (s t refl)
  agree (body.Constd t v) s h e = are_words (sort t) (s t refl)
  agree (body.Consth t d v) s h e = are_words (sort t) (s t refl)
  agree (body.Uext t a w) s h e = two (sort t) (node a) (λ m n. nat_eq m (n + w)) (s t refl) (and_parts (is_some (node a)) _ h).0 e
  agree (body.Sext t a w) s h e = two (sort t) (node a) (λ m n. nat_eq m (n + w)) (s t refl) (and_parts (is_some (node a)) _ h).0 e
  agree (body.Slice t a u l) s h e = two (sort t) (node a) (λ m n. nat_eq m (u - l + 1)) (s t refl) (and_parts (is_some (node a)) _ h).0 e
  agree (body.Unary op t a) s h e = two (sort t) (node a) (λ m n. nat_eq m (unary_width op n)) (s t refl) (and_parts (is_some (node a)) _ h).0 e
  agree (body.Binary op t a b) s h e =
      let first = and_parts (is_some (node a)) _ h in
      let second = and_parts (is_some (node b)) _ first.1 in
      of_binary op (sort t) (node a) (node b) (s t refl) first.0 second.0 e
  agree (body.Concat t a b) s h e =
      let first = and_parts (is_some (node a)) _ h in
      let second = and_parts (is_some (node b)) _ first.1 in
      three (sort t) (node a) (node b) (λ m n k. nat_eq m (n + k)) (s t refl) first.0 second.0 e
  agree (body.Ite t c a b) s h e =
      let cond_there = and_parts (is_some (node c)) _ h in
      let first = and_parts (is_some (node a)) _ cond_there.1 in
      let second = and_parts (is_some (node b)) _ first.1 in
      let parts = and_parts (nat_eq (at_node c) 1) _ e in
      let both = and_parts (nat_eq (at_sort t) (at_node a)) _ parts.1 in
      and_from (is_bit (node_words c)) _ (bit_words (node c) cond_there.0 parts.0)
      (and_from (same_sort (node_words a) (sort_words t)) _ (same_words (node a) (sort t) first.0 (s t refl) (flip (at_sort t) (at_node a) both.0)) (same_words (node b) (sort t) second.0 (s t refl) (flip (at_sort t) (at_node b) both.1)))
  agree (body.Init t a b) s h e =
      let first = and_parts (is_some (node a)) _ h in
      let second = and_parts (is_some (node b)) _ first.1 in
      let both = and_parts (nat_eq (at_sort t) (at_node a)) _ e in
      and_from (same_sort (node_words a) (sort_words t)) _ (same_words (node a) (sort t) first.0 (s t refl) (flip (at_sort t) (at_node a) both.0))
      (or_left (same_sort (node_words b) (sort_words t)) (same_sort (node_words b) (element_sort (sort_words t))) (same_words (node b) (sort t) second.0 (s t refl) (flip (at_sort t) (at_node b) both.1)))
  agree (body.Next t a b) s h e =
      let first = and_parts (is_some (node a)) _ h in
      let second = and_parts (is_some (node b)) _ first.1 in
      let both = and_parts (nat_eq (at_sort t) (at_node a)) _ e in
      and_from (same_sort (node_words a) (sort_words t)) _ (same_words (node a) (sort t) first.0 (s t refl) (flip (at_sort t) (at_node a) both.0)) (same_words (node b) (sort t) second.0 (s t refl) (flip (at_sort t) (at_node b) both.1))
  agree (body.Bad a) s h e = bit_words (node a) (and_parts (is_some (node a)) _ h).0 e
  agree (body.Constraint a) s h e = bit_words (node a) (and_parts (is_some (node a)) _ h).0 e
  agree (body.Fair a) s h e = bit_words (node a) (and_parts (is_some (node a)) _ h).0 e
  agree (body.Output a) s h e = refl
  agree (body.Justice nodes) s h e = all_bits nodes h e

-- sorts by other look-ups that are the same everywhere
all_same : (f g : ℕ → Option Sort) (ids : List ℕ) → ((a : ℕ) → f a ≡ g a) → list_all (λ a. is_bit (f a)) ids ≡ list_all (λ a. is_bit (g a)) ids
all_same f g [] h = refl
all_same f g (a ∷ ids) h = ap₂ (λ (b c : Bool). b && c) (ap is_bit (h a)) (all_same f g ids h)

agree_same : (f g p q : ℕ → Option Sort) (b : Body) → ((s : ℕ) → f s ≡ g s) → ((a : ℕ) → p a ≡ q a) → sorts_agree f p b ≡ sorts_agree g q b
agree_same f g p q (body.Justice nodes) h k = all_same p q nodes k
agree_same f g p q (body.Sort n) h k = refl
agree_same f g p q (body.Input t) h k = refl
agree_same f g p q (body.State t) h k = refl
agree_same f g p q (body.Output a) h k = refl
agree_same f g p q (body.Zero t) h k = rw (h t) refl
agree_same f g p q (body.One t) h k = rw (h t) refl
agree_same f g p q (body.Ones t) h k = rw (h t) refl
agree_same f g p q (body.Const t d v) h k = rw (h t) refl
agree_same f g p q (body.Constd t v) h k = rw (h t) refl
agree_same f g p q (body.Consth t d v) h k = rw (h t) refl
agree_same f g p q (body.Uext t a w) h k = rw (h t, k a) refl
agree_same f g p q (body.Sext t a w) h k = rw (h t, k a) refl
agree_same f g p q (body.Slice t a u l) h k = rw (h t, k a) refl
agree_same f g p q (body.Unary op t a) h k = rw (h t, k a) refl
agree_same f g p q (body.Binary op t a b) h k = ap₂ (λ (o : Option Sort) (r : Option Sort × Option Sort). binary_agrees op o r.0 r.1) (h t) (ap₂ (λ (x y : Option Sort). (x, y)) (k a) (k b))
agree_same f g p q (body.Concat t a b) h k = rw (h t, k a, k b) refl
agree_same f g p q (body.Ite t c a b) h k = rw (h t, k c, k a, k b) refl
agree_same f g p q (body.Init t a b) h k = rw (h t, k a, k b) refl
agree_same f g p q (body.Next t a b) h k = rw (h t, k a, k b) refl
agree_same f g p q (body.Bad a) h k = rw (k a) refl
agree_same f g p q (body.Constraint a) h k = rw (k a) refl
agree_same f g p q (body.Fair a) h k = rw (k a) refl

-- ---- rows

module _ (items : List Item) where
  ids_there : (ids : List ℕ) → list_all (λ a. is_some (sort_of_node (plain_lines items) a)) ids ≡ list_all (λ a. is_some (node_width items a)) ids
  ids_there [] = refl
  ids_there (a ∷ ids) = ap₂ (λ (b c : Bool). b && c) (ap (λ (o : Option Sort). is_some o) (plain_node items a) ∙ some_words (node_width items a)) (ids_there ids)

  sort_row : (b : Body) → item_sort_missing items b ≡ false → sort_is_missing (plain_lines items) (form b []) ≡ false
  unfolding item_sort_missing sort_is_missing
  sort_row b h = by (named_sort b) h
    where
      by : (o : Option ℕ) → option_map_or (λ s. is_none (sort_width items s)) o false ≡ false → option_map_or (λ s. is_none (sort_at (plain_lines items) s)) o false ≡ false
      by None h = refl
      by (Some s) h = ap (λ (o : Option Sort). is_none o) (plain_sort items s) ∙ (none_words (sort_width items s) ∙ h)

  node_row : (b : Body) → item_operand_missing items b ≡ false → operand_is_missing (plain_lines items) (form b []) ≡ false
  unfolding item_operand_missing operand_is_missing
  node_row b h = ap not (ids_there (operands b)) ∙ h

  state_row : (b : Body) → item_state_none items b ≡ false → state_is_none (plain_lines items) (form b []) ≡ false
  unfolding item_state_none state_is_none
  state_row (body.Init s t v) h = ap not (sym (plain_named items t)) ∙ h
  state_row (body.Next s t v) h = ap not (sym (plain_named items t)) ∙ h
  state_row _ h = refl

  minus_row : (b : Body) → state_has_minus (form b []) ≡ false
  unfolding state_has_minus
  minus_row (body.Init s t v) = refl
  minus_row (body.Next s t v) = refl
  minus_row _ = refl

  no_minus : (ids : List ℕ) → minuses_at_words (plain_lines items) ids [] ≡ true
  no_minus [] = refl
  no_minus (a ∷ ids) = refl

  array_row : (b : Body) → minus_is_at_array (plain_lines items) (form b []) ≡ false
  unfolding minus_is_at_array
  array_row b = ap not (no_minus (operands b))

  width_row : (b : Body) → width_is_above greatest_width b ≡ false → width_is_out_of_range (form b []) ≡ false
  unfolding width_is_out_of_range
  width_row b h = h

  none_row : (b : Body) → is_no_array_sort (plain_lines items) (form b []) ≡ false
  unfolding is_no_array_sort
  none_row b = refl

  slice_row : (b : Body) → item_slice items b ≡ false → slice_is_out_of_range (plain_lines items) (form b []) ≡ false
  unfolding item_slice slice_is_out_of_range
  slice_row (body.Slice s a u l) h = ap (λ (o : Option Sort). is_no_slice_of o u l) (plain_node items a) ∙ slice_words (node_width items a) u l h
  slice_row _ h = refl

  there_is : (o : Option ℕ) → is_none o ≡ false → is_some o ≡ true
  there_is None h = absurd (cc)
  there_is (Some n) h = refl

  sort_there : (b : Body) (s : ℕ) → named_sort b ≡ Some s → item_sort_missing items b ≡ false → is_some (sort_width items s) ≡ true
  unfolding item_sort_missing
  sort_there b s e h = there_is (sort_width items s) (ap (λ (o : Option ℕ). option_map_or (λ (k : ℕ). is_none (sort_width items k)) o false) (sym e) ∙ h)

  nodes_there : (b : Body) → item_operand_missing items b ≡ false → list_all (λ a. is_some (node_width items a)) (operands b) ≡ true
  unfolding item_operand_missing
  nodes_there b h = not-false _ h

  widths_there : (b : Body) → widths_differ items b ≡ false → widths_agree (λ s. unwrap_or (sort_width items s) 0) (λ a. unwrap_or (node_width items a) 0) b ≡ true
  unfolding widths_differ
  widths_there b h = not-false _ h

  agrees : (b : Body) → item_sort_missing items b ≡ false → item_operand_missing items b ≡ false → widths_differ items b ≡ false → sorts_agree (sort_at (plain_lines items)) (sort_of_node (plain_lines items)) b ≡ true
  agrees b s n w =
      agree_same (sort_at (plain_lines items)) (λ k. option_map (λ m. words m) (sort_width items k)) (sort_of_node (plain_lines items)) (λ a. option_map (λ m. words m) (node_width items a)) b (plain_sort items) (plain_node items)
      ∙ agree (sort_width items) (node_width items) b (λ k e. sort_there b k e s) (nodes_there b n) (widths_there b w)

  sorts_row : (b : Body) → item_sort_missing items b ≡ false → item_operand_missing items b ≡ false → widths_differ items b ≡ false → sorts_differ (plain_lines items) (form b []) ≡ false
  unfolding sorts_differ
  sorts_row b s n w = ap not (agrees b s n w)

  fits_row : (b : Body) → constant_is_above greatest_width items b ≡ false → constant_does_not_fit (plain_lines items) (form b []) ≡ false
  unfolding constant_is_above constant_does_not_fit
  fits_row (body.Const s d v) h = ap (λ (n : ℕ). not (constant_fits_within greatest_width n (body.Const s d v))) (ap width_in (plain_sort items s) ∙ width_words (sort_width items s)) ∙ h
  fits_row (body.Constd s v) h = ap (λ (n : ℕ). not (constant_fits_within greatest_width n (body.Constd s v))) (ap width_in (plain_sort items s) ∙ width_words (sort_width items s)) ∙ h
  fits_row (body.Consth s d v) h = ap (λ (n : ℕ). not (constant_fits_within greatest_width n (body.Consth s d v))) (ap width_in (plain_sort items s) ∙ width_words (sort_width items s)) ∙ h
  fits_row _ h = refl

  some_plain : (o : Option ℕ) → is_some (option_map plain o) ≡ is_some o
  some_plain None = refl
  some_plain (Some v) = refl

  init_row : (b : Body) → item_second_init items b ≡ false → is_second_init (plain_lines items) (form b []) ≡ false
  unfolding item_second_init is_second_init
  init_row (body.Init s t v) h = ap (λ o. is_some o) (plain_init items t) ∙ (some_plain (init_value items t) ∙ h)
  init_row _ h = refl

  next_row : (b : Body) → item_second_next items b ≡ false → is_second_next (plain_lines items) (form b []) ≡ false
  unfolding item_second_next is_second_next
  next_row (body.Next s t v) h = ap (λ o. is_some o) (plain_next items t) ∙ (some_plain (next_value items t) ∙ h)
  next_row _ h = refl

  many_row : nat_le most_items (length items) ≡ false → nat_le most_items (length (plain_lines items)) ≡ false
  many_row h = ap (nat_le most_items) (length-map items plain_line) ∙ h

  range_row : (x : Item) → item_out_of_range x ≡ false → id_is_out_of_range x.id ≡ false
  unfolding item_out_of_range id_is_out_of_range
  range_row x h = h

  some_line : (o : Option Item) → is_some (option_map plain_line o) ≡ is_some o
  some_line None = refl
  some_line (Some x) = refl

  taken_row : (x : Item) → item_taken items x ≡ false → id_is_taken (plain_lines items) x.id ≡ false
  unfolding item_taken id_is_taken
  taken_row x h = ap (λ o. is_some o) (plain_found items x.id) ∙ (some_line (find_item items x.id) ∙ h)

  all_rows : (x : Item) → wide_refusal greatest_width items x ≡ None → AllFalse (line_table (plain_lines items) (plain_line x))
  all_rows x h =
      let rows = tests_false greatest_width items x h in
      let said = rows.1.1.1 in
      let b = x.body in (
        many_row rows.0,
        (
          range_row x rows.1.0,
          (
            taken_row x rows.1.1.0,
            (
              sort_row b said.0,
              (
                node_row b said.1.0,
                (
                  state_row b said.1.1.0,
                  (
                    minus_row b,
                    (
                      array_row b,
                      (
                        width_row b said.1.1.1.0,
                        (
                          none_row b,
                          (
                            slice_row b said.1.1.1.1.0,
                            (sorts_row b said.0 said.1.0 said.1.1.1.1.1.0, (fits_row b said.1.1.1.1.1.1.0, (init_row b said.1.1.1.1.1.1.1.1.0, (next_row b said.1.1.1.1.1.1.1.1.1.0, (said.1.1.1.1.1.1.1.1.1.1.0, tt))))),
                          ),
                        ),
                      ),
                    ),
                  ),
                ),
              ),
            ),
          ),
        ),
      )

pub plain_accepted : (items : List Item) (x : Item) → wide_refusal greatest_width items x ≡ None → line_refusal (plain_lines items) (plain_line x) ≡ None
unfolding line_refusal
plain_accepted items x h = none_first (line_table (plain_lines items) (plain_line x)) (all_rows items x h)

plain_after : (before xs : List Item) → IsWideAfter greatest_width before xs → IsAcceptedAfter (plain_lines before) (plain_lines xs)
plain_after before [] h = tt
plain_after before (x ∷ xs) h =
    (plain_accepted before x h.0, subst (λ (l : List FullLine). IsAcceptedAfter l (plain_lines xs)) (map-append plain_line before (x ∷ [])) (plain_after (before ++ x ∷ []) xs h.1))

pub plain_are_accepted : (items : List Item) → IsWideModel greatest_width items → IsAccepted (plain_lines items)
plain_are_accepted items h = plain_after [] items h
