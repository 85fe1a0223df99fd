-- What an item says that no row of the table refuses.
use Rattle.std.proofs.Common.{◌≡◌, ℕ, ◌+◌, ◌-◌, ◌<◌, ◌≤◌, Bool, true, false, not, ◌&&◌, ◌||◌, cond, nat_le, nat_lt, ◌==◌, eqb-true, List, [], ◌∷◌, length, Option, Some, None, is_some, is_none, unwrap_or, option_and_then, refl, sym, ap, ap₂, ◌∙◌}
use Rattle.std.specs.List.{list_all}
use Rattle.std.specs.Option.{option_map_or}
use Rattle.std.proofs.lemmas.Option.{none-some}
use Rattle.std.proofs.lemmas.Bool.{leb-true, leb-false, ltb-true, and_parts, not-false}
use Rattle.base.specs.Widths.{unary_width, binary_width, is_of_bits}
use Rattle.btor2.specs.declared.item.Item.{Item}
use Rattle.btor2.specs.declared.item.Body.{Body}
use Rattle.btor2.specs.declared.item.Body.TheVariants as body
use Rattle.btor2.specs.declared.fault.PushFault.{PushFault}
use Rattle.btor2.specs.Items.{find_item, sort_width, node_width, constant_of, names_state, init_value, next_value, named_sort, operands}
use Rattle.btor2.specs.Check.{most_items, greatest_id, id_is_out_of_range, id_is_taken, sort_is_missing, operand_is_missing, state_is_none, width_is_out_of_range, is_no_slice, slice_is_out_of_range, widths_agree, widths_differ, constant_fits, constant_does_not_fit, init_is_not_constant, is_second_init, is_second_next, first_row, table, refusal}
use Rattle.btor2.proofs.AppendLemmas.{some_of, none_of}

-- each of some ids
abbrev pub Each : (ℕ → Type 0) → List ℕ → Type 0
Each P [] = Unit {0}
Each P (a ∷ more) = P a × Each P more

-- an id names a sort, or a node with a value
abbrev pub HasSort : List Item → ℕ → Type 0
HasSort items s = (n : ℕ) × (sort_width items s ≡ Some n)

abbrev pub HasWidth : List Item → ℕ → Type 0
HasWidth items a = (n : ℕ) × (node_width items a ≡ Some n)

-- What the body of an accepted item says: its sort and operands are there, with the widths of its form.
abbrev pub BodyIsAccepted : List Item → Body → Type 0
BodyIsAccepted items (body.Sort n) = (1 ≤ n) × (n ≤ 64)
BodyIsAccepted items (body.Input s) = HasSort items s
BodyIsAccepted items (body.State s) = HasSort items s
BodyIsAccepted items (body.Zero s) = HasSort items s
BodyIsAccepted items (body.One s) = HasSort items s
BodyIsAccepted items (body.Ones s) = HasSort items s
BodyIsAccepted items (body.Const s d v) = (n : ℕ) × (sort_width items s ≡ Some n) × (constant_fits n (body.Const s d v) ≡ true)
BodyIsAccepted items (body.Constd s v) = (n : ℕ) × (sort_width items s ≡ Some n) × (constant_fits n (body.Constd s v) ≡ true)
BodyIsAccepted items (body.Consth s d v) = (n : ℕ) × (sort_width items s ≡ Some n) × (constant_fits n (body.Consth s d v) ≡ true)
BodyIsAccepted items (body.Uext s a by) = (n : ℕ) × (node_width items a ≡ Some n) × (sort_width items s ≡ Some (n + by))
BodyIsAccepted items (body.Sext s a by) = (n : ℕ) × (node_width items a ≡ Some n) × (sort_width items s ≡ Some (n + by))
BodyIsAccepted items (body.Slice s a u l) =
    (n : ℕ) × (node_width items a ≡ Some n) × (sort_width items s ≡ Some (u - l + 1)) × (l ≤ u) × (u < n)
BodyIsAccepted items (body.Unary op s a) = (n : ℕ) × (node_width items a ≡ Some n) × (sort_width items s ≡ Some (unary_width op n))
BodyIsAccepted items (body.Binary op s a b) =
    (n : ℕ) × (node_width items a ≡ Some n) × (node_width items b ≡ Some n) × (sort_width items s ≡ Some (binary_width op n)) × ((not (is_of_bits op) || (n == 1)) ≡ true)
BodyIsAccepted items (body.Concat s a b) =
    (m : ℕ) × (n : ℕ) × (node_width items a ≡ Some m) × (node_width items b ≡ Some n) × (sort_width items s ≡ Some (m + n))
BodyIsAccepted items (body.Ite s c t e) =
    (n : ℕ) × (node_width items c ≡ Some 1) × (node_width items t ≡ Some n) × (node_width items e ≡ Some n) × (sort_width items s ≡ Some n)
BodyIsAccepted items (body.Init s t v) =
    (n : ℕ) × (w : ℕ) × (sort_width items s ≡ Some n) × (node_width items t ≡ Some n) × (node_width items v ≡ Some n) × (names_state items t ≡ true) × (constant_of items v ≡ Some w) × (init_value items t ≡ None)
BodyIsAccepted items (body.Next s t v) =
    (n : ℕ) × (sort_width items s ≡ Some n) × (node_width items t ≡ Some n) × (node_width items v ≡ Some n) × (names_state items t ≡ true) × (next_value items t ≡ None)
BodyIsAccepted items (body.Bad a) = node_width items a ≡ Some 1
BodyIsAccepted items (body.Constraint a) = node_width items a ≡ Some 1
BodyIsAccepted items (body.Fair a) = node_width items a ≡ Some 1
BodyIsAccepted items (body.Output a) = HasWidth items a
BodyIsAccepted items (body.Justice nodes) = Each (λ a. node_width items a ≡ Some 1) nodes

-- an item that no row refuses: each row's fact
pub record IsAccepted (items : List Item) (x : Item) : Type 0 where
  pub few : length items < 1048576
  pub least : 1 ≤ x.id
  pub greatest : x.id ≤ 4294967295
  pub fresh : find_item items x.id ≡ None
  pub nodes : Each (HasWidth items) (operands x.body)
  pub says : BodyIsAccepted items x.body

-- each row's test is false
abbrev AllFalse : List (Bool × PushFault) → Type 0
AllFalse [] = Unit {0}
AllFalse (row ∷ rows) = (row.0 ≡ false) × AllFalse rows

all_false : (rows : List (Bool × PushFault)) → first_row rows ≡ None → AllFalse rows
all_false [] h = tt
all_false (row ∷ rows) h =
    elim row.0 as (λ b. cond b (Some row.1) (first_row rows) ≡ None → (b ≡ false) × AllFalse rows) [
      | true ↦ λ e. absurd (none-some row.1 (sym e))
      | false ↦ λ e. (refl, all_false rows e)
    ] h

tests_false : (items : List Item) (x : Item) → refusal items x ≡ None → AllFalse (table items x)
unfolding refusal
tests_false items x h = all_false (table items x) h

in_range : (a b n : ℕ) → not (nat_le a n && nat_le n b) ≡ false → (a ≤ n) × (n ≤ b)
in_range a b n h =
    let both = and_parts (nat_le a n) (nat_le n b) (not-false _ h) in
    (leb-true a n both.0, leb-true n b both.1)

in_slice : (n u l : ℕ) → is_no_slice n u l ≡ false → (l ≤ u) × (u < n)
in_slice n u l h =
    let both = and_parts (nat_le l u) (nat_lt u n) (not-false _ h) in
    (leb-true l u both.0, ltb-true u n both.1)

some_of_not : {A : Type 0} (o : Option A) → is_none o ≡ false → (v : A) × (o ≡ Some v)
some_of_not None h = absurd (cc)
some_of_not (Some v) h = (v, refl)

-- operands that are there
each_there : (items : List Item) (nodes : List ℕ) → list_all (λ a. is_some (node_width items a)) nodes ≡ true → Each (HasWidth items) nodes
each_there items [] h = tt
each_there items (a ∷ more) h =
    let both = and_parts (is_some (node_width items a)) (list_all (λ k. is_some (node_width items k)) more) h in
    (some_of (node_width items a) both.0, each_there items more both.1)

-- the number of an answer that is there
width_is : (o : Option ℕ) (n : ℕ) → o ≡ Some n → unwrap_or o 0 ≡ n
width_is o n h = ap (λ (p : Option ℕ). unwrap_or p 0) h

-- an answer that is there is the number that it was found equal to
same_as : (o : Option ℕ) (k m : ℕ) → is_none o ≡ false → (unwrap_or o 0 == k) ≡ true → k ≡ m → o ≡ Some m
same_as None k m there h e = absurd (cc)
same_as (Some n) k m there h e = ap (λ (j : ℕ). Some j) (eqb-true n k h ∙ e)

-- a width that equals another that is there
node_as : (o : Option ℕ) (k m n : ℕ) → o ≡ Some m → (unwrap_or o 0 == k) ≡ true → k ≡ n → o ≡ Some n
node_as o k m n there h e = there ∙ ap (λ (j : ℕ). Some j) (sym (width_is o m there) ∙ eqb-true (unwrap_or o 0) k h ∙ e)

-- the same with the number first
as_node : (o : Option ℕ) (k m n : ℕ) → o ≡ Some m → (k == unwrap_or o 0) ≡ true → k ≡ n → o ≡ Some n
as_node o k m n there h e = there ∙ ap (λ (j : ℕ). Some j) (sym (width_is o m there) ∙ sym (eqb-true k (unwrap_or o 0) h) ∙ e)

-- two nodes of the width of a sort
pair_of_sort : (s a b : Option ℕ) (n m k : ℕ) → s ≡ Some n → a ≡ Some m → b ≡ Some k
    → ((unwrap_or s 0 == unwrap_or a 0) && (unwrap_or s 0 == unwrap_or b 0)) ≡ true → (a ≡ Some n) × (b ≡ Some n)
pair_of_sort s a b n m k of_s of_a of_b h =
    let both = and_parts (unwrap_or s 0 == unwrap_or a 0) (unwrap_or s 0 == unwrap_or b 0) h in
    (as_node a (unwrap_or s 0) m n of_a both.0 (width_is s n of_s), as_node b (unwrap_or s 0) k n of_b both.1 (width_is s n of_s))

-- nodes of one bit each
each_bit : (items : List Item) (nodes : List ℕ) → Each (HasWidth items) nodes → list_all (λ a. unwrap_or (node_width items a) 0 == 1) nodes ≡ true
    → Each (λ a. node_width items a ≡ Some 1) nodes
each_bit items [] there h = tt
each_bit items (a ∷ more) there h =
    let both = and_parts (unwrap_or (node_width items a) 0 == 1) (list_all (λ k. unwrap_or (node_width items k) 0 == 1) more) h in
    (node_as (node_width items a) 1 there.0.0 1 there.0.1 both.0 refl, each_bit items more there.1 both.1)

-- the rows that speak of a body, none of which applies
record Passes (items : List Item) (b : Body) : Type 0 where
  sort : option_map_or (λ s. is_none (sort_width items s)) (named_sort b) false ≡ false
  nodes : Each (HasWidth items) (operands b)
  state : state_is_none items b ≡ false
  width : width_is_out_of_range b ≡ false
  slice : slice_is_out_of_range items b ≡ false
  widths : widths_agree (λ s. unwrap_or (sort_width items s) 0) (λ a. unwrap_or (node_width items a) 0) b ≡ true
  fits : constant_fits (unwrap_or (option_and_then (sort_width items) (named_sort b)) 0) b ≡ true
  constant : init_is_not_constant items b ≡ false
  first_init : is_second_init items b ≡ false
  first_next : is_second_next items b ≡ false

-- a constant fits the sort that is there
fits_sort : (items : List Item) (s : ℕ) (b : Body) → (there : HasSort items s) → constant_fits (unwrap_or (sort_width items s) 0) b ≡ true
    → (n : ℕ) × (sort_width items s ≡ Some n) × (constant_fits n b ≡ true)
fits_sort items s b there h = (there.0, there.1, ap (λ (n : ℕ). constant_fits n b) (sym (width_is (sort_width items s) there.0 there.1)) ∙ h)

body_accepted : (items : List Item) (b : Body) → Passes items b → BodyIsAccepted items b
unfolding state_is_none width_is_out_of_range slice_is_out_of_range init_is_not_constant is_second_init is_second_next
body_accepted items (body.Sort n) p = in_range 1 64 n p.width
body_accepted items (body.Input s) p = some_of_not (sort_width items s) p.sort
body_accepted items (body.State s) p = some_of_not (sort_width items s) p.sort
body_accepted items (body.Zero s) p = some_of_not (sort_width items s) p.sort
body_accepted items (body.One s) p = some_of_not (sort_width items s) p.sort
body_accepted items (body.Ones s) p = some_of_not (sort_width items s) p.sort
body_accepted items (body.Const s d v) p = fits_sort items s (body.Const s d v) (some_of_not (sort_width items s) p.sort) p.fits
body_accepted items (body.Constd s v) p = fits_sort items s (body.Constd s v) (some_of_not (sort_width items s) p.sort) p.fits
body_accepted items (body.Consth s d v) p = fits_sort items s (body.Consth s d v) (some_of_not (sort_width items s) p.sort) p.fits
body_accepted items (body.Uext s a by) p =
    let of_a = p.nodes.0 in
    (of_a.0, of_a.1, same_as (sort_width items s) _ (of_a.0 + by) p.sort p.widths (ap (λ (n : ℕ). n + by) (width_is (node_width items a) of_a.0 of_a.1)))
body_accepted items (body.Sext s a by) p =
    let of_a = p.nodes.0 in
    (of_a.0, of_a.1, same_as (sort_width items s) _ (of_a.0 + by) p.sort p.widths (ap (λ (n : ℕ). n + by) (width_is (node_width items a) of_a.0 of_a.1)))
body_accepted items (body.Slice s a u l) p =
    let of_a = p.nodes.0 in
    let range = in_slice of_a.0 u l (ap (λ (n : ℕ). is_no_slice n u l) (sym (width_is (node_width items a) of_a.0 of_a.1)) ∙ p.slice) in
    (of_a.0, of_a.1, same_as (sort_width items s) (u - l + 1) (u - l + 1) p.sort p.widths refl, range.0, range.1)
body_accepted items (body.Unary op s a) p =
    let of_a = p.nodes.0 in
    (of_a.0, of_a.1, same_as (sort_width items s) _ (unary_width op of_a.0) p.sort p.widths (ap (unary_width op) (width_is (node_width items a) of_a.0 of_a.1)))
body_accepted items (body.Binary op s a b) p =
    let of_a = p.nodes.0 in
    let of_b = p.nodes.1.0 in
    let width = width_is (node_width items a) of_a.0 of_a.1 in
    let same = and_parts (unwrap_or (node_width items a) 0 == unwrap_or (node_width items b) 0) _ p.widths in
    let gives = and_parts (not (is_of_bits op) || (unwrap_or (node_width items a) 0 == 1)) _ same.1 in (
      of_a.0,
      of_a.1,
      as_node (node_width items b) _ of_b.0 of_a.0 of_b.1 same.0 width,
      same_as (sort_width items s) _ (binary_width op of_a.0) p.sort gives.1 (ap (binary_width op) width),
      ap (λ (n : ℕ). not (is_of_bits op) || (n == 1)) (sym width) ∙ gives.0,
    )
body_accepted items (body.Concat s a b) p =
    let of_a = p.nodes.0 in
    let of_b = p.nodes.1.0 in
    let sum = ap₂ (λ (m n : ℕ). m + n) (width_is (node_width items a) of_a.0 of_a.1) (width_is (node_width items b) of_b.0 of_b.1) in
    (of_a.0, of_b.0, of_a.1, of_b.1, same_as (sort_width items s) _ (of_a.0 + of_b.0) p.sort p.widths sum)
body_accepted items (body.Ite s c t e) p =
    let of_s = some_of_not (sort_width items s) p.sort in
    let of_c = p.nodes.0 in
    let of_t = p.nodes.1.0 in
    let of_e = p.nodes.1.1.0 in
    let widths = and_parts (unwrap_or (node_width items c) 0 == 1) _ p.widths in
    let pair = pair_of_sort (sort_width items s) (node_width items t) (node_width items e) of_s.0 of_t.0 of_e.0 of_s.1 of_t.1 of_e.1 widths.1 in
    (of_s.0, node_as (node_width items c) 1 of_c.0 1 of_c.1 widths.0 refl, pair.0, pair.1, of_s.1)
body_accepted items (body.Init s t v) p =
    let of_s = some_of_not (sort_width items s) p.sort in
    let of_t = p.nodes.0 in
    let of_v = p.nodes.1.0 in
    let of_word = some_of_not (constant_of items v) p.constant in
    let pair = pair_of_sort (sort_width items s) (node_width items t) (node_width items v) of_s.0 of_t.0 of_v.0 of_s.1 of_t.1 of_v.1 p.widths in
    (of_s.0, of_word.0, of_s.1, pair.0, pair.1, not-false _ p.state, of_word.1, none_of (init_value items t) p.first_init)
body_accepted items (body.Next s t v) p =
    let of_s = some_of_not (sort_width items s) p.sort in
    let of_t = p.nodes.0 in
    let of_v = p.nodes.1.0 in
    let pair = pair_of_sort (sort_width items s) (node_width items t) (node_width items v) of_s.0 of_t.0 of_v.0 of_s.1 of_t.1 of_v.1 p.widths in
    (of_s.0, of_s.1, pair.0, pair.1, not-false _ p.state, none_of (next_value items t) p.first_next)
body_accepted items (body.Bad a) p = node_as (node_width items a) 1 p.nodes.0.0 1 p.nodes.0.1 p.widths refl
body_accepted items (body.Constraint a) p = node_as (node_width items a) 1 p.nodes.0.0 1 p.nodes.0.1 p.widths refl
body_accepted items (body.Fair a) p = node_as (node_width items a) 1 p.nodes.0.0 1 p.nodes.0.1 p.widths refl
body_accepted items (body.Output a) p = p.nodes.0
body_accepted items (body.Justice nodes) p = each_bit items nodes p.nodes p.widths

-- an item that is not refused meets each row
pub IsAccepted-from_refusal : (items : List Item) (x : Item) → refusal items x ≡ None → IsAccepted items x
unfolding id_is_out_of_range id_is_taken sort_is_missing operand_is_missing widths_differ constant_does_not_fit
IsAccepted-from_refusal items x h =
    let full = tests_false items x h in
    let ids = full.1 in
    let taken = ids.1 in
    let sort = taken.1 in
    let nodes = sort.1 in
    let state = nodes.1 in
    let width = state.1 in
    let slice = width.1 in
    let widths = slice.1 in
    let fits = widths.1 in
    let constant = fits.1 in
    let init = constant.1 in
    let next = init.1 in
    let ends = in_range 1 greatest_id x.id ids.0 in
    let there = each_there items (operands x.body) (not-false _ nodes.0) in
    record {
      few = leb-false most_items (length items) full.0;
      least = ends.0;
      greatest = ends.1;
      fresh = none_of (find_item items x.id) taken.0;
      nodes = there;
      says = body_accepted items x.body (record {
        sort = sort.0;
        nodes = there;
        state = state.0;
        width = width.0;
        slice = slice.0;
        widths = not-false _ widths.0;
        fits = not-false _ fits.0;
        constant = constant.0;
        first_init = init.0;
        first_next = next.0;
      });
    }
