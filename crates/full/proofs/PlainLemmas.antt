-- A list of wide items is a model: the same lines, sorts and nodes.
use Rattle.std.proofs.Common.{◌≡◌, ℕ, Bool, true, false, cond, not, nat_eq, nat_le, eqb-true, List, [], ◌∷◌, ◌++◌, Option, Some, None, is_some, is_none, IfSome, unwrap_or, option_map, option_and_then, refl, sym, ap, subst, ◌∙◌, inl}
use Rattle.std.specs.List.{AllByRecursion, list_all}
use Rattle.std.specs.Option.{option_or, option_map_or}
use Rattle.std.proofs.lemmas.List.{map-append}
use Rattle.std.proofs.lemmas.Option.{none-some}
use Rattle.std.proofs.lemmas.Bool.{and_parts}
use Rattle.base.specs.declared.operators.Binary.{Binary}
use Rattle.base.specs.declared.operators.Binary.TheVariants as binary
use Rattle.btor2.specs.declared.item.Item.{Item}
use Rattle.btor2.specs.declared.item.Body.{Body}
use Rattle.btor2.specs.declared.item.Body.TheVariants as body
use Rattle.btor2.specs.Items.{find_item, is_state, node_sort, named_sort, sort_bits, operands, sort_width, width_of_body, node_width, names_state, init_for, next_for, init_value, next_value}
use Rattle.btor2.specs.Check.{id_is_taken, sort_is_missing, operand_is_missing, state_is_none, is_no_slice, slice_is_out_of_range, widths_agree, widths_differ, is_second_init, is_second_next}
use Rattle.btor2.specs.Trace.{bits_of}
use Rattle.btor2.proofs.AppendLemmas.{none_of}
use Rattle.wide.specs.WideModels.{greatest_width, width_is_above, constant_fits_within, constant_is_above, wide_refusal, IsWideAfter, IsWideModel}
use Rattle.wide.proofs.GrowLemmas.{tests_false}
use Rattle.full.specs.Lines.{Operand, plain, form, FullLine, with_minuses, words, find_line, line_sort, sort_at, sort_of, sort_of_node, size_of, width_of, is_form, init_of, next_of}
use Rattle.full.specs.Agreement.{is_words, SortsAgree, WidthsAgree, names_full_state, IsOfState, LineAgrees, IsFullAfter, IsFullModel}
use Rattle.full.specs.Plain.{plain_line, plain_lines}

-- ---- look-ups

pub plain_found : (items : List Item) (id : ℕ) → find_line (plain_lines items) id ≡ option_map plain_line (find_item items id)
plain_found [] id = refl
plain_found (x ∷ xs) id = by (nat_eq id x.id) (plain_found xs id)
  where
    by : (b : Bool) → find_line (plain_lines xs) id ≡ option_map plain_line (find_item xs id) → cond b (Some (plain_line x)) (find_line (plain_lines xs) id) ≡ option_map plain_line (cond b (Some x) (find_item xs id))
    by true e = refl
    by false e = e

then_map : {A B C : Type 0} (f : A → B) (g : B → Option C) (o : Option A) → option_and_then g (option_map f o) ≡ option_and_then (λ x. g (f x)) o
then_map f g None = refl
then_map f g (Some x) = refl

map_then : {A B C : Type 0} (f : A → Option B) (g : B → C) (o : Option A) → option_and_then (λ x. option_map g (f x)) o ≡ option_map g (option_and_then f o)
map_then f g None = refl
map_then f g (Some x) = refl

pub plain_sort : (items : List Item) (id : ℕ) → sort_at (plain_lines items) id ≡ option_map (λ n. words n) (sort_width items id)
plain_sort items id =
    ap (option_and_then (λ (x : FullLine). line_sort (plain_lines items) x.says)) (plain_found items id) ∙ then_map plain_line (λ (x : FullLine). line_sort (plain_lines items) x.says) (find_item items id)
    ∙ map_then (λ (x : Item). sort_bits x.body) (λ n. words n) (find_item items id)

plain_body : (items : List Item) (o : Option ℕ) → option_and_then (sort_at (plain_lines items)) o ≡ option_map (λ n. words n) (option_and_then (sort_width items) o)
plain_body items None = refl
plain_body items (Some s) = plain_sort items s

pub plain_node : (items : List Item) (id : ℕ) → sort_of_node (plain_lines items) id ≡ option_map (λ n. words n) (node_width items id)
plain_node items id = ap (option_and_then (λ (x : FullLine). sort_of (plain_lines items) x.says)) (plain_found items id) ∙ by (find_item items id)
  where
    by : (o : Option Item) → option_and_then (λ (x : FullLine). sort_of (plain_lines items) x.says) (option_map plain_line o) ≡ option_map (λ n. words n) (option_and_then (λ (x : Item). width_of_body items x.body) o)
    by None = refl
    by (Some x) = plain_body items (node_sort x.body)

size_words : (o : Option ℕ) → size_of (option_map (λ n. words n) o) ≡ unwrap_or o 0
size_words None = refl
size_words (Some n) = refl

pub plain_size : (items : List Item) (id : ℕ) → size_of (sort_at (plain_lines items) id) ≡ unwrap_or (sort_width items id) 0
plain_size items id = ap size_of (plain_sort items id) ∙ size_words (sort_width items id)

pub plain_width : (items : List Item) (id : ℕ) → width_of (plain_lines items) id ≡ bits_of items id
plain_width items id = ap size_of (plain_node items id) ∙ size_words (node_width items id)

pub plain_init : (items : List Item) (id : ℕ) → init_of (plain_lines items) id ≡ option_map plain (init_value items id)
plain_init [] id = refl
plain_init (x ∷ xs) id = by x.body (plain_init xs id)
  where
    one : (b : Bool) (v : ℕ) → init_of (plain_lines xs) id ≡ option_map plain (init_value xs id) → option_or (cond b (Some (plain v)) None) (init_of (plain_lines xs) id) ≡ option_map plain (option_or (cond b (Some v) None) (init_value xs id))
    one true v e = refl
    one false v e = e

    by : (b : Body) → init_of (plain_lines xs) id ≡ option_map plain (init_value xs id) → init_of (record { id = x.id; symbol = x.symbol; says = form b [] } ∷ plain_lines xs) id ≡ option_map plain (option_or (init_for id b) (init_value xs id))
    by (body.Init s t v) e = one (nat_eq id t) v e
    by _ e = e

pub plain_next : (items : List Item) (id : ℕ) → next_of (plain_lines items) id ≡ option_map plain (next_value items id)
plain_next [] id = refl
plain_next (x ∷ xs) id = by x.body (plain_next xs id)
  where
    one : (b : Bool) (v : ℕ) → next_of (plain_lines xs) id ≡ option_map plain (next_value xs id) → option_or (cond b (Some (plain v)) None) (next_of (plain_lines xs) id) ≡ option_map plain (option_or (cond b (Some v) None) (next_value xs id))
    one true v e = refl
    one false v e = e

    by : (b : Body) → next_of (plain_lines xs) id ≡ option_map plain (next_value xs id) → next_of (record { id = x.id; symbol = x.symbol; says = form b [] } ∷ plain_lines xs) id ≡ option_map plain (option_or (next_for id b) (next_value xs id))
    by (body.Next s t v) e = one (nat_eq id t) v e
    by _ e = e

pub plain_named : (items : List Item) (id : ℕ) → names_state items id ≡ names_full_state (plain_lines items) id
plain_named items id = by (find_item items id) ∙ sym (ap (λ (o : Option FullLine). unwrap_or (option_map (λ (x : FullLine). is_form is_state x.says) o) false) (plain_found items id))
  where
    one : (b : Bool) (x : Item) → is_some (cond b (Some x) None) ≡ b
    one true x = refl
    one false x = refl

    by : (o : Option Item) → is_some (option_and_then (λ (x : Item). cond (is_state x.body) (Some x) None) o) ≡ unwrap_or (option_map (λ (x : FullLine). is_form is_state x.says) (option_map plain_line o)) false
    by None = refl
    by (Some x) = one (is_state x.body) x

-- ---- what an accepted item says

not_false : (b : Bool) → not b ≡ false → b ≡ true
not_false true h = refl
not_false false h = absurd (cc)

-- the rows of an item's body that none of applies
record Passes (items : List Item) (x : Item) : Type 0 where
  fresh : find_item items x.id ≡ None
  sort : (s : ℕ) → named_sort x.body ≡ Some s → is_some (sort_width items s) ≡ true
  nodes : AllByRecursion (λ a. is_some (node_width items a) ≡ true) (operands x.body)
  state : state_is_none items x.body ≡ false
  width : width_is_above greatest_width x.body ≡ false
  slice : slice_is_out_of_range items x.body ≡ false
  widths : widths_agree (λ s. unwrap_or (sort_width items s) 0) (λ a. unwrap_or (node_width items a) 0) x.body ≡ true
  fits : constant_fits_within greatest_width (unwrap_or (option_and_then (sort_width items) (named_sort x.body)) 0) x.body ≡ true
  first_init : is_second_init items x.body ≡ false
  first_next : is_second_next items x.body ≡ false

is_new : (items : List Item) (x : Item) → id_is_taken items x ≡ false → find_item items x.id ≡ None
unfolding id_is_taken
is_new items x h = none_of (find_item items x.id) h

there_is : (o : Option ℕ) → is_none o ≡ false → is_some o ≡ true
there_is None h = absurd (cc)
there_is (Some n) h = refl

sort_there : (items : List Item) (b : Body) (s : ℕ) → sort_is_missing items b ≡ false → named_sort b ≡ Some s → is_some (sort_width items s) ≡ true
unfolding sort_is_missing
sort_there items b s h e = there_is (sort_width items s) (ap (λ (o : Option ℕ). option_map_or (λ (k : ℕ). is_none (sort_width items k)) o false) (sym e) ∙ h)

all_there : (items : List Item) (ids : List ℕ) → list_all (λ a. is_some (node_width items a)) ids ≡ true → AllByRecursion (λ a. is_some (node_width items a) ≡ true) ids
all_there items [] h = tt
all_there items (a ∷ more) h = let parts = and_parts (is_some (node_width items a)) _ h in (parts.0, all_there items more parts.1)

nodes_there : (items : List Item) (b : Body) → operand_is_missing items b ≡ false → AllByRecursion (λ a. is_some (node_width items a) ≡ true) (operands b)
unfolding operand_is_missing
nodes_there items b h = all_there items (operands b) (not_false (list_all (λ a. is_some (node_width items a)) (operands b)) h)

widths_are : (items : List Item) (b : Body) → widths_differ items b ≡ false → widths_agree (λ s. unwrap_or (sort_width items s) 0) (λ a. unwrap_or (node_width items a) 0) b ≡ true
unfolding widths_differ
widths_are items b h = not_false _ h

constant_fits_there : (items : List Item) (b : Body) → constant_is_above greatest_width items b ≡ false → constant_fits_within greatest_width (unwrap_or (option_and_then (sort_width items) (named_sort b)) 0) b ≡ true
unfolding constant_is_above
constant_fits_there items b h = not_false _ h

passes : (items : List Item) (x : Item) → wide_refusal greatest_width items x ≡ None → Passes items x
passes items x h =
    let rows = tests_false greatest_width items x h in
    record {
      fresh = is_new items x rows.1.1.0;
      sort = λ s. sort_there items x.body s rows.1.1.1.0;
      nodes = nodes_there items x.body rows.1.1.1.1.0;
      state = rows.1.1.1.1.1.0;
      width = rows.1.1.1.1.1.1.0;
      slice = rows.1.1.1.1.1.1.1.0;
      widths = widths_are items x.body rows.1.1.1.1.1.1.1.1.0;
      fits = constant_fits_there items x.body rows.1.1.1.1.1.1.1.1.1.0;
      first_init = rows.1.1.1.1.1.1.1.1.1.1.1.0;
      first_next = rows.1.1.1.1.1.1.1.1.1.1.1.1.0;
    }

-- ---- it agrees with the lines before it

same_there : (o p : Option ℕ) → is_some o ≡ true → is_some p ≡ true → nat_eq (unwrap_or o 0) (unwrap_or p 0) ≡ true → o ≡ p
same_there None p h k e = absurd (cc)
same_there (Some n) None h k e = absurd (cc)
same_there (Some n) (Some m) h k e = ap (λ (j : ℕ). Some j) (eqb-true n m e)

one_there : (o : Option ℕ) → is_some o ≡ true → nat_eq (unwrap_or o 0) 1 ≡ true → o ≡ Some 1
one_there None h e = absurd (cc)
one_there (Some n) h e = ap (λ (j : ℕ). Some j) (eqb-true n 1 e)

words_there : (o : Option ℕ) → is_some o ≡ true → is_words (option_map (λ n. words n) o) ≡ true
words_there None h = absurd (cc)
words_there (Some n) h = refl

sort_words : (items : List Item) (s : ℕ) → is_some (sort_width items s) ≡ true → is_words (sort_at (plain_lines items) s) ≡ true
sort_words items s h = ap is_words (plain_sort items s) ∙ words_there (sort_width items s) h

node_words : (items : List Item) (a : ℕ) → is_some (node_width items a) ≡ true → is_words (sort_of_node (plain_lines items) a) ≡ true
node_words items a h = ap is_words (plain_node items a) ∙ words_there (node_width items a) h

nodes_words : (items : List Item) (ids : List ℕ) → AllByRecursion (λ a. is_some (node_width items a) ≡ true) ids → AllByRecursion (λ a. is_words (sort_of_node (plain_lines items) a) ≡ true) ids
nodes_words items [] h = tt
nodes_words items (a ∷ more) h = (node_words items a h.0, nodes_words items more h.1)

node_sort_same : (items : List Item) (a b : ℕ) → node_width items a ≡ node_width items b → sort_of_node (plain_lines items) a ≡ sort_of_node (plain_lines items) b
node_sort_same items a b e = plain_node items a ∙ ap (option_map (λ n. words n)) e ∙ sym (plain_node items b)

of_sort : (items : List Item) (a s : ℕ) → is_some (node_width items a) ≡ true → is_some (sort_width items s) ≡ true → nat_eq (unwrap_or (sort_width items s) 0) (unwrap_or (node_width items a) 0) ≡ true
    → sort_of_node (plain_lines items) a ≡ sort_at (plain_lines items) s
of_sort items a s h k e = plain_node items a ∙ ap (option_map (λ n. words n)) (sym (same_there (sort_width items s) (node_width items a) k h e)) ∙ sym (plain_sort items s)

bit_sort : (items : List Item) (a : ℕ) → is_some (node_width items a) ≡ true → nat_eq (unwrap_or (node_width items a) 0) 1 ≡ true → sort_of_node (plain_lines items) a ≡ Some (words 1)
bit_sort items a h e = plain_node items a ∙ ap (option_map (λ n. words n)) (one_there (node_width items a) h e)

bit_sorts : (items : List Item) (ids : List ℕ) → AllByRecursion (λ a. is_some (node_width items a) ≡ true) ids → list_all (λ a. nat_eq (unwrap_or (node_width items a) 0) 1) ids ≡ true
    → AllByRecursion (λ a. sort_of_node (plain_lines items) a ≡ Some (words 1)) ids
bit_sorts items [] h e = tt
bit_sorts items (a ∷ more) h e = let parts = and_parts (nat_eq (unwrap_or (node_width items a) 0) 1) _ e in (bit_sort items a h.0 parts.0, bit_sorts items more h.1 parts.1)

binary_sorts : (items : List Item) (op : Binary) (s a b : ℕ) → is_some (sort_width items s) ≡ true → is_some (node_width items a) ≡ true → is_some (node_width items b) ≡ true
    → nat_eq (unwrap_or (node_width items a) 0) (unwrap_or (node_width items b) 0) ≡ true → SortsAgree (plain_lines items) (body.Binary op s a b)
binary_sorts items binary.Eq s a b sort left right e = (sort_words items s sort, node_sort_same items a b (same_there (node_width items a) (node_width items b) left right e))
binary_sorts items binary.Neq s a b sort left right e = (sort_words items s sort, node_sort_same items a b (same_there (node_width items a) (node_width items b) left right e))
binary_sorts items _ s a b sort left right e = (sort_words items s sort, (node_words items a left, (node_words items b right, tt)))

least_bit : (n : ℕ) → width_is_above greatest_width (body.Sort n) ≡ false → nat_le 1 n ≡ true
unfolding width_is_above
least_bit n h = (and_parts (nat_le 1 n) (nat_le n greatest_width) (not_false _ h)).0

sorts_agree : (items : List Item) (id : ℕ) (b : Body) → ((s : ℕ) → named_sort b ≡ Some s → is_some (sort_width items s) ≡ true) → AllByRecursion (λ a. is_some (node_width items a) ≡ true) (operands b)
    → width_is_above greatest_width b ≡ false → widths_agree (λ s. unwrap_or (sort_width items s) 0) (λ a. unwrap_or (node_width items a) 0) b ≡ true → SortsAgree (plain_lines items) b
sorts_agree items id (body.Sort n) sort nodes width widths = least_bit n width
sorts_agree items id (body.Input s) sort nodes width widths = tt
sorts_agree items id (body.State s) sort nodes width widths = tt
sorts_agree items id (body.Binary op s a b) sort nodes width widths =
    binary_sorts items op s a b (sort s refl) nodes.0 nodes.1.0 (and_parts (nat_eq (unwrap_or (node_width items a) 0) (unwrap_or (node_width items b) 0)) _ widths).0
sorts_agree items id (body.Ite s c t e) sort nodes width widths =
    let parts = (and_parts (nat_eq (unwrap_or (node_width items c) 0) 1) _ widths).1 in
    let pair = and_parts (nat_eq (unwrap_or (sort_width items s) 0) (unwrap_or (node_width items t) 0)) _ parts in
    (node_words items c nodes.0, of_sort items t s nodes.1.0 (sort s refl) pair.0, of_sort items e s nodes.1.1.0 (sort s refl) pair.1)
sorts_agree items id (body.Init s t v) sort nodes width widths =
    let pair = and_parts (nat_eq (unwrap_or (sort_width items s) 0) (unwrap_or (node_width items t) 0)) _ widths in
    (of_sort items t s nodes.0 (sort s refl) pair.0, inl (of_sort items v s nodes.1.0 (sort s refl) pair.1))
sorts_agree items id (body.Next s t v) sort nodes width widths =
    let pair = and_parts (nat_eq (unwrap_or (sort_width items s) 0) (unwrap_or (node_width items t) 0)) _ widths in
    (of_sort items t s nodes.0 (sort s refl) pair.0, of_sort items v s nodes.1.0 (sort s refl) pair.1)
sorts_agree items id (body.Output a) sort nodes width widths = tt
sorts_agree items id (body.Bad a) sort nodes width widths = bit_sort items a nodes.0 widths
sorts_agree items id (body.Constraint a) sort nodes width widths = bit_sort items a nodes.0 widths
sorts_agree items id (body.Fair a) sort nodes width widths = bit_sort items a nodes.0 widths
sorts_agree items id (body.Justice ids) sort nodes width widths = bit_sorts items ids nodes widths
sorts_agree items id b sort nodes width widths = (sort_words items _ (sort _ refl), nodes_words items (operands b) nodes)

-- the widths that a form asks for, by sizes that are the same
widths_by : (sort sort' node node' : ℕ → ℕ) (b : Body) → ((s : ℕ) → sort s ≡ sort' s) → ((a : ℕ) → node a ≡ node' a) → widths_agree sort node b ≡ true → widths_agree sort' node' b ≡ true
widths_by sort sort' node node' b e d h = subst (λ (f : ℕ → ℕ). widths_agree f node' b ≡ true) (λ i s. e s i) (subst (λ (f : ℕ → ℕ). widths_agree sort f b ≡ true) (λ i a. d a i) h)

in_range : (items : List Item) (s a u l : ℕ) → slice_is_out_of_range items (body.Slice s a u l) ≡ false → is_no_slice (width_of (plain_lines items) a) u l ≡ false
unfolding slice_is_out_of_range
in_range items s a u l h = ap (λ (n : ℕ). is_no_slice n u l) (plain_width items a) ∙ h

widths_agree_there : (items : List Item) (b : Body) → slice_is_out_of_range items b ≡ false → widths_agree (λ s. size_of (sort_at (plain_lines items) s)) (width_of (plain_lines items)) b ≡ true → WidthsAgree (plain_lines items) b
widths_agree_there items (body.Init s t v) slice h = tt
widths_agree_there items (body.Slice s a u l) slice h = (h, in_range items s a u l slice)
widths_agree_there items _ slice h = h

of_state : (items : List Item) (s t v : ℕ) → state_is_none items (body.Init s t v) ≡ false → names_state items t ≡ true
unfolding state_is_none
of_state items s t v h = not_false (names_state items t) h

of_state_next : (items : List Item) (s t v : ℕ) → state_is_none items (body.Next s t v) ≡ false → names_state items t ≡ true
unfolding state_is_none
of_state_next items s t v h = not_false (names_state items t) h

first_init_is : (items : List Item) (s t v : ℕ) → is_second_init items (body.Init s t v) ≡ false → init_value items t ≡ None
unfolding is_second_init
first_init_is items s t v h = none_of (init_value items t) h

pub first_next_is : (items : List Item) (s t v : ℕ) → is_second_next items (body.Next s t v) ≡ false → next_value items t ≡ None
unfolding is_second_next
first_next_is items s t v h = none_of (next_value items t) h

is_of_state : (items : List Item) (b : Body) → state_is_none items b ≡ false → is_second_init items b ≡ false → is_second_next items b ≡ false → IsOfState (plain_lines items) b []
is_of_state items (body.Init s t v) state init next =
    (sym (plain_named items t) ∙ of_state items s t v state, refl, plain_init items t ∙ ap (option_map plain) (first_init_is items s t v init))
is_of_state items (body.Next s t v) state init next =
    (sym (plain_named items t) ∙ of_state_next items s t v state, refl, plain_next items t ∙ ap (option_map plain) (first_next_is items s t v next))
is_of_state items _ state init next = tt

sort_line : (items : List Item) (b : Body) → ((s : ℕ) → named_sort b ≡ Some s → is_some (sort_width items s) ≡ true) → IfSome (node_sort b) (λ s. is_some (sort_at (plain_lines items) s) ≡ true)
sort_line items b h = by (node_sort b) (λ s e. h s (name_of b s e))
  where
    name_of : (c : Body) (s : ℕ) → node_sort c ≡ Some s → named_sort c ≡ Some s
    name_of (body.Init t u v) s e = absurd (none-some s e)
    name_of (body.Next t u v) s e = absurd (none-some s e)
    name_of c s e = e

    some_map : (o : Option ℕ) → is_some (option_map (λ n. words n) o) ≡ is_some o
    some_map None = refl
    some_map (Some n) = refl

    by : (o : Option ℕ) → ((s : ℕ) → o ≡ Some s → is_some (sort_width items s) ≡ true) → IfSome o (λ s. is_some (sort_at (plain_lines items) s) ≡ true)
    by None k = tt
    by (Some s) k = ap is_some (plain_sort items s) ∙ some_map (sort_width items s) ∙ k s refl

nodes_line : (items : List Item) (ids : List ℕ) → AllByRecursion (λ a. is_some (node_width items a) ≡ true) ids → AllByRecursion (λ (o : Operand). is_some (sort_of_node (plain_lines items) o.id) ≡ true) (with_minuses ids [])
nodes_line items [] h = tt
nodes_line items (a ∷ more) h = (there (node_width items a) (plain_node items a) h.0, nodes_line items more h.1)
  where
    there : (o : Option ℕ) → sort_of_node (plain_lines items) a ≡ option_map (λ n. words n) o → is_some o ≡ true → is_some (sort_of_node (plain_lines items) a) ≡ true
    there None e k = absurd (cc)
    there (Some n) e k = ap is_some e

no_minuses : (items : List Item) (ids : List ℕ) → AllByRecursion (λ (o : Operand). o.minus ≡ true → is_words (sort_of_node (plain_lines items) o.id) ≡ true) (with_minuses ids [])
no_minuses items [] = tt
no_minuses items (a ∷ more) = ((λ e. absurd (cc)), no_minuses items more)

fits_line : (items : List Item) (b : Body) → constant_fits_within greatest_width (unwrap_or (option_and_then (sort_width items) (named_sort b)) 0) b ≡ true
    → constant_fits_within greatest_width (size_of (sort_at (plain_lines items) (unwrap_or (named_sort b) 0))) b ≡ true
fits_line items b h = by b h
  where
    at : (s : ℕ) (c : Body) → constant_fits_within greatest_width (unwrap_or (sort_width items s) 0) c ≡ true → constant_fits_within greatest_width (size_of (sort_at (plain_lines items) s)) c ≡ true
    at s c h = ap (λ (n : ℕ). constant_fits_within greatest_width n c) (plain_size items s) ∙ h

    by : (c : Body) → constant_fits_within greatest_width (unwrap_or (option_and_then (sort_width items) (named_sort c)) 0) c ≡ true
        → constant_fits_within greatest_width (size_of (sort_at (plain_lines items) (unwrap_or (named_sort c) 0))) c ≡ true
    by (body.Const s d v) h = at s (body.Const s d v) h
    by (body.Constd s v) h = at s (body.Constd s v) h
    by (body.Consth s d v) h = at s (body.Consth s d v) h
    by _ h = refl

line_agrees : (items : List Item) (x : Item) → Passes items x → LineAgrees (plain_lines items) (plain_line x)
line_agrees items x p = record {
  fresh = plain_found items x.id ∙ ap (option_map plain_line) p.fresh;
  sort = sort_line items x.body p.sort;
  nodes = nodes_line items (operands x.body) p.nodes;
  minuses = no_minuses items (operands x.body);
  agrees = (
    sorts_agree items x.id x.body p.sort p.nodes p.width p.widths,
    widths_agree_there items x.body p.slice
        (widths_by (λ s. unwrap_or (sort_width items s) 0) (λ s. size_of (sort_at (plain_lines items) s)) (λ a. unwrap_or (node_width items a) 0) (width_of (plain_lines items)) x.body (λ s. sym (plain_size items s)) (λ a. sym (plain_width items a)) p.widths),
    fits_line items x.body p.fits,
    is_of_state items x.body p.state p.first_init p.first_next,
  );
}

plain_after : (before rest : List Item) → IsWideAfter greatest_width before rest → IsFullAfter (plain_lines before) (plain_lines rest)
plain_after before [] w = tt
plain_after before (x ∷ xs) w =
    (line_agrees before x (passes before x w.0), subst (λ (l : List FullLine). IsFullAfter l (plain_lines xs)) (map-append plain_line before (x ∷ [])) (plain_after (before ++ x ∷ []) xs w.1))

-- a list of wide items is a model
pub plain_is_model : (items : List Item) → IsWideModel greatest_width items → IsFullModel (plain_lines items)
plain_is_model items w = plain_after [] items w
