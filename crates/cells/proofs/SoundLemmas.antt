-- Lines that no row refuses for what they say.
use Rattle.std.proofs.Common.{◌≡◌, ℕ, ◌+◌, ◌-◌, ◌<◌, ◌≤◌, true, false, not, le-leb, lt-ltb, eq-eqb, List, Some, None, is_some, unwrap_or, refl, ap}
use Rattle.std.specs.List.{list_all}
use Rattle.std.proofs.lemmas.Option.{none-some}
use Rattle.base.specs.declared.operators.Unary.TheVariants as unary
use Rattle.base.specs.declared.operators.Binary.TheVariants as binary
use Rattle.btor2.specs.declared.item.Item.{Item}
use Rattle.btor2.specs.declared.item.Body.{Body}
use Rattle.btor2.specs.declared.item.Body.TheVariants as body
use Rattle.btor2.specs.Items.{node_sort, named_sort, operands, node_width, sort_width, names_state, constant_of, init_value, next_value}
use Rattle.btor2.specs.Check.{sort_is_missing, operand_is_missing, state_is_none, slice_is_out_of_range, widths_agree, widths_differ, init_is_not_constant, is_second_init, is_second_next, justice_is_empty}
use Rattle.btor2.specs.Trace.{bits_of}
use Rattle.wide.specs.WideModels.{greatest_width, width_is_above, constant_fits_within, constant_is_above}
use Rattle.cells.specs.Kept.{IsSound}

pub sound_sort : (items : List Item) (n : ℕ) → 1 ≤ n → n ≤ greatest_width → IsSound items (body.Sort n)
unfolding IsSound sort_is_missing operand_is_missing state_is_none width_is_above slice_is_out_of_range widths_differ constant_is_above init_is_not_constant is_second_init is_second_next justice_is_empty
sound_sort items n least most = rw (le-leb 1 n least, le-leb n greatest_width most) refl

pub sound_input : (items : List Item) (s n : ℕ) → sort_width items s ≡ Some n → IsSound items (body.Input s)
unfolding IsSound sort_is_missing operand_is_missing state_is_none width_is_above slice_is_out_of_range widths_differ constant_is_above init_is_not_constant is_second_init is_second_next justice_is_empty
sound_input items s n sort = rw sort refl

pub sound_state : (items : List Item) (s n : ℕ) → sort_width items s ≡ Some n → IsSound items (body.State s)
unfolding IsSound sort_is_missing operand_is_missing state_is_none width_is_above slice_is_out_of_range widths_differ constant_is_above init_is_not_constant is_second_init is_second_next justice_is_empty
sound_state items s n sort = rw sort refl

pub sound_init : (items : List Item) (s t v n w : ℕ) → names_state items t ≡ true → constant_of items v ≡ Some w → init_value items t ≡ None → sort_width items s ≡ Some n → node_width items t ≡ Some n → node_width items v ≡ Some n → IsSound items (body.Init s t v)
unfolding IsSound sort_is_missing operand_is_missing state_is_none width_is_above slice_is_out_of_range widths_differ constant_is_above init_is_not_constant is_second_init is_second_next justice_is_empty
sound_init items s t v n w is constant first sort in_t in_v = rw (is, constant, first, sort, in_t, in_v, eq-eqb n n refl) refl

pub sound_next : (items : List Item) (s t v n : ℕ) → names_state items t ≡ true → next_value items t ≡ None → sort_width items s ≡ Some n → node_width items t ≡ Some n → node_width items v ≡ Some n → IsSound items (body.Next s t v)
unfolding IsSound sort_is_missing operand_is_missing state_is_none width_is_above slice_is_out_of_range widths_differ constant_is_above init_is_not_constant is_second_init is_second_next justice_is_empty
sound_next items s t v n is first sort in_t in_v = rw (is, first, sort, in_t, in_v, eq-eqb n n refl) refl

pub sound_bad : (items : List Item) (a : ℕ) → node_width items a ≡ Some 1 → IsSound items (body.Bad a)
unfolding IsSound sort_is_missing operand_is_missing state_is_none width_is_above slice_is_out_of_range widths_differ constant_is_above init_is_not_constant is_second_init is_second_next justice_is_empty
sound_bad items a in_a = rw in_a refl

pub sound_constraint : (items : List Item) (a : ℕ) → node_width items a ≡ Some 1 → IsSound items (body.Constraint a)
unfolding IsSound sort_is_missing operand_is_missing state_is_none width_is_above slice_is_out_of_range widths_differ constant_is_above init_is_not_constant is_second_init is_second_next justice_is_empty
sound_constraint items a in_a = rw in_a refl

pub sound_output : (items : List Item) (a n : ℕ) → node_width items a ≡ Some n → IsSound items (body.Output a)
unfolding IsSound sort_is_missing operand_is_missing state_is_none width_is_above slice_is_out_of_range widths_differ constant_is_above init_is_not_constant is_second_init is_second_next justice_is_empty
sound_output items a n in_a = rw in_a refl

-- ---- nodes of the maker's own lines

pub sound_constant : (items : List Item) (s n : ℕ) → sort_width items s ≡ Some n → IsSound items (body.Zero s) × IsSound items (body.One s) × IsSound items (body.Ones s)
unfolding IsSound sort_is_missing operand_is_missing state_is_none width_is_above slice_is_out_of_range widths_differ constant_is_above init_is_not_constant is_second_init is_second_next justice_is_empty
sound_constant items s n sort = (rw sort refl, rw sort refl, rw sort refl)

pub sound_slice : (items : List Item) (s a u l n : ℕ) → l ≤ u → u < bits_of items a → is_some (node_width items a) ≡ true → n ≡ u - l + 1 → sort_width items s ≡ Some n → IsSound items (body.Slice s a u l)
unfolding IsSound sort_is_missing operand_is_missing state_is_none width_is_above slice_is_out_of_range widths_differ constant_is_above init_is_not_constant is_second_init is_second_next justice_is_empty
sound_slice items s a u l n order within there wide sort = rw (sort, there, le-leb l u order, lt-ltb u (bits_of items a) within, eq-eqb n (u - l + 1) wide) refl

pub sound_concat : (items : List Item) (s a b m n : ℕ) → sort_width items s ≡ Some (m + n) → node_width items a ≡ Some m → node_width items b ≡ Some n → IsSound items (body.Concat s a b)
unfolding IsSound sort_is_missing operand_is_missing state_is_none width_is_above slice_is_out_of_range widths_differ constant_is_above init_is_not_constant is_second_init is_second_next justice_is_empty
sound_concat items s a b m n sort in_a in_b = rw (sort, in_a, in_b, eq-eqb (m + n) (m + n) refl) refl

pub sound_ite : (items : List Item) (s c t e n : ℕ) → sort_width items s ≡ Some n → node_width items c ≡ Some 1 → node_width items t ≡ Some n → node_width items e ≡ Some n → IsSound items (body.Ite s c t e)
unfolding IsSound sort_is_missing operand_is_missing state_is_none width_is_above slice_is_out_of_range widths_differ constant_is_above init_is_not_constant is_second_init is_second_next justice_is_empty
sound_ite items s c t e n sort in_c in_t in_e = rw (sort, in_c, in_t, in_e, eq-eqb n n refl) refl

pub sound_not : (items : List Item) (s a n : ℕ) → sort_width items s ≡ Some n → node_width items a ≡ Some n → IsSound items (body.Unary unary.Not s a)
unfolding IsSound sort_is_missing operand_is_missing state_is_none width_is_above slice_is_out_of_range widths_differ constant_is_above init_is_not_constant is_second_init is_second_next justice_is_empty
sound_not items s a n sort in_a = rw (sort, in_a, eq-eqb n n refl) refl

pub sound_and : (items : List Item) (s a b n : ℕ) → sort_width items s ≡ Some n → node_width items a ≡ Some n → node_width items b ≡ Some n → IsSound items (body.Binary binary.And s a b)
unfolding IsSound sort_is_missing operand_is_missing state_is_none width_is_above slice_is_out_of_range widths_differ constant_is_above init_is_not_constant is_second_init is_second_next justice_is_empty
sound_and items s a b n sort in_a in_b = rw (sort, in_a, in_b, eq-eqb n n refl) refl

-- ---- a node of any form

named_node : (b : Body) (s : ℕ) → node_sort b ≡ Some s → named_sort b ≡ Some s
named_node (body.Init t u v) s e = absurd (none-some s e)
named_node (body.Next t u v) s e = absurd (none-some s e)
named_node b s e = e

sort_there : (items : List Item) (b : Body) (s n : ℕ) → node_sort b ≡ Some s → sort_width items s ≡ Some n → sort_is_missing items b ≡ false
unfolding sort_is_missing
sort_there items b s n names sort = rw (named_node b s names, sort) refl

all_there : (items : List Item) (b : Body) → list_all (λ a. is_some (node_width items a)) (operands b) ≡ true → operand_is_missing items b ≡ false
unfolding operand_is_missing
all_there items b h = ap not h

no_state_line : (items : List Item) (b : Body) (s : ℕ) → node_sort b ≡ Some s → state_is_none items b ≡ false
unfolding state_is_none
no_state_line items (body.Init t u v) s e = absurd (none-some s e)
no_state_line items (body.Next t u v) s e = absurd (none-some s e)
no_state_line items _ s e = refl

no_sort : (b : Body) (s : ℕ) → node_sort b ≡ Some s → width_is_above greatest_width b ≡ false
unfolding width_is_above
no_sort (body.Sort n) s e = absurd (none-some s e)
no_sort _ s e = refl

widths_same : (items : List Item) (b : Body) → widths_agree (λ k. unwrap_or (sort_width items k) 0) (bits_of items) b ≡ true → widths_differ items b ≡ false
unfolding widths_differ
widths_same items b h = ap not h

constant_within : (items : List Item) (b : Body) (s n : ℕ) → node_sort b ≡ Some s → sort_width items s ≡ Some n → constant_fits_within greatest_width n b ≡ true → constant_is_above greatest_width items b ≡ false
unfolding constant_is_above
constant_within items b s n names sort h = rw (named_node b s names, sort) (ap not h)

no_init : (items : List Item) (b : Body) (s : ℕ) → node_sort b ≡ Some s → (init_is_not_constant items b ≡ false) × (is_second_init items b ≡ false)
unfolding init_is_not_constant is_second_init
no_init items (body.Init t u v) s e = absurd (none-some s e)
no_init items _ s e = (refl, refl)

no_next : (items : List Item) (b : Body) (s : ℕ) → node_sort b ≡ Some s → is_second_next items b ≡ false
unfolding is_second_next
no_next items (body.Next t u v) s e = absurd (none-some s e)
no_next items _ s e = refl

no_justice : (b : Body) (s : ℕ) → node_sort b ≡ Some s → justice_is_empty b ≡ false
unfolding justice_is_empty
no_justice (body.Justice nodes) s e = absurd (none-some s e)
no_justice _ s e = refl

pub sound_node : (items : List Item) (b : Body) (s n : ℕ) → node_sort b ≡ Some s → sort_width items s ≡ Some n → list_all (λ a. is_some (node_width items a)) (operands b) ≡ true → slice_is_out_of_range items b ≡ false
    → widths_agree (λ k. unwrap_or (sort_width items k) 0) (bits_of items) b ≡ true → constant_fits_within greatest_width n b ≡ true → IsSound items b
unfolding IsSound
sound_node items b s n names sort there slice widths fits =
    rw (
      sort_there items b s n names sort,
      all_there items b there,
      no_state_line items b s names,
      no_sort b s names,
      slice,
      widths_same items b widths,
      constant_within items b s n names sort fits,
      (no_init items b s names).0,
      (no_init items b s names).1,
      no_next items b s names,
      no_justice b s names,
    ) refl
