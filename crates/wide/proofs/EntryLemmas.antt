-- What is kept of an item is what the list says of it.
use Rattle.std.proofs.Common.{◌≡◌, ℕ, nat_eq, Bool, true, false, cond, List, [], ◌∷◌, Option, Some, None, is_some, unwrap_or, option_map, option_and_then, ◌==◌, refl, sym, ap, ◌∙◌}
use Rattle.std.specs.List.{list_all}
use Rattle.btor2.specs.declared.item.Item.{Item}
use Rattle.btor2.specs.declared.item.Body.{Body}
use Rattle.btor2.specs.declared.item.Body.TheVariants as body
use Rattle.btor2.specs.Items.{find_item, node_sort, sort_bits, sort_width, width_of_body, node_width, is_state, names_state, constant_word, constant_of_body, constant_of}
use Rattle.wide.specs.declared.entries.Entry.{Entry}
use Rattle.wide.specs.declared.entries.Entry.TheVariants as entry
use Rattle.wide.specs.Entries.{entry_by, entry_of, entry_at, entry_sort, entry_node, is_state_entry, is_constant_entry}

-- of a body

sort_by : (kind : ℕ → Entry) (o : Option ℕ) → ((n : ℕ) → entry_sort (Some (kind n)) ≡ None) → entry_sort (Some (entry_by kind o)) ≡ None
sort_by kind (Some n) h = h n
sort_by kind None h = refl

body_sort : (items : List Item) (b : Body) → entry_sort (Some (entry_of items b)) ≡ sort_bits b
body_sort items (body.Sort n) = refl
body_sort items (body.State s) = sort_by (λ n. entry.State n) (sort_width items s) (λ n. refl)
body_sort items (body.Zero s) = sort_by (λ n. entry.Constant n) (sort_width items s) (λ n. refl)
body_sort items (body.One s) = sort_by (λ n. entry.Constant n) (sort_width items s) (λ n. refl)
body_sort items (body.Ones s) = sort_by (λ n. entry.Constant n) (sort_width items s) (λ n. refl)
body_sort items (body.Const s d v) = sort_by (λ n. entry.Constant n) (sort_width items s) (λ n. refl)
body_sort items (body.Constd s v) = sort_by (λ n. entry.Constant n) (sort_width items s) (λ n. refl)
body_sort items (body.Consth s d v) = sort_by (λ n. entry.Constant n) (sort_width items s) (λ n. refl)
body_sort items b = sort_by (λ n. entry.Node n) (width_of_body items b) (λ n. refl)

node_by : (kind : ℕ → Entry) (o : Option ℕ) → ((n : ℕ) → entry_node (Some (kind n)) ≡ Some n) → entry_node (Some (entry_by kind o)) ≡ o
node_by kind (Some n) h = h n
node_by kind None h = refl

body_node : (items : List Item) (b : Body) → entry_node (Some (entry_of items b)) ≡ width_of_body items b
body_node items (body.Sort n) = refl
body_node items (body.State s) = node_by (λ n. entry.State n) (sort_width items s) (λ n. refl)
body_node items (body.Zero s) = node_by (λ n. entry.Constant n) (sort_width items s) (λ n. refl)
body_node items (body.One s) = node_by (λ n. entry.Constant n) (sort_width items s) (λ n. refl)
body_node items (body.Ones s) = node_by (λ n. entry.Constant n) (sort_width items s) (λ n. refl)
body_node items (body.Const s d v) = node_by (λ n. entry.Constant n) (sort_width items s) (λ n. refl)
body_node items (body.Constd s v) = node_by (λ n. entry.Constant n) (sort_width items s) (λ n. refl)
body_node items (body.Consth s d v) = node_by (λ n. entry.Constant n) (sort_width items s) (λ n. refl)
body_node items b = node_by (λ n. entry.Node n) (width_of_body items b) (λ n. refl)

state_by : (kind : ℕ → Entry) (b : Bool) (o : Option ℕ) → ((n : ℕ) → is_state_entry (Some (kind n)) ≡ b) → is_some o ≡ true → is_state_entry (Some (entry_by kind o)) ≡ b
state_by kind b (Some n) h some = h n
state_by kind b None h some = absurd (cc)

body_state : (items : List Item) (b : Body) → is_some (width_of_body items b) ≡ true → is_state_entry (Some (entry_of items b)) ≡ is_state b
body_state items (body.Sort n) some = refl
body_state items (body.State s) some = state_by (λ n. entry.State n) true (sort_width items s) (λ n. refl) some
body_state items (body.Zero s) some = state_by (λ n. entry.Constant n) false (sort_width items s) (λ n. refl) some
body_state items (body.One s) some = state_by (λ n. entry.Constant n) false (sort_width items s) (λ n. refl) some
body_state items (body.Ones s) some = state_by (λ n. entry.Constant n) false (sort_width items s) (λ n. refl) some
body_state items (body.Const s d v) some = state_by (λ n. entry.Constant n) false (sort_width items s) (λ n. refl) some
body_state items (body.Constd s v) some = state_by (λ n. entry.Constant n) false (sort_width items s) (λ n. refl) some
body_state items (body.Consth s d v) some = state_by (λ n. entry.Constant n) false (sort_width items s) (λ n. refl) some
body_state items b some = state_by (λ n. entry.Node n) false (width_of_body items b) (λ n. refl) some

constant_by : (kind : ℕ → Entry) (word : ℕ → Option ℕ) (o : Option ℕ) → ((n : ℕ) → is_constant_entry (Some (kind n)) ≡ is_some (word n)) → is_constant_entry (Some (entry_by kind o)) ≡ is_some (option_and_then word o)
constant_by kind word (Some n) h = h n
constant_by kind word None h = refl

body_constant : (items : List Item) (b : Body) → is_constant_entry (Some (entry_of items b)) ≡ is_some (constant_of_body items b)
body_constant items (body.Sort n) = refl
body_constant items (body.State s) = constant_by (λ n. entry.State n) (λ w. constant_word w (body.State s)) (sort_width items s) (λ n. refl)
body_constant items (body.Zero s) = constant_by (λ n. entry.Constant n) (λ w. constant_word w (body.Zero s)) (sort_width items s) (λ n. refl)
body_constant items (body.One s) = constant_by (λ n. entry.Constant n) (λ w. constant_word w (body.One s)) (sort_width items s) (λ n. refl)
body_constant items (body.Ones s) = constant_by (λ n. entry.Constant n) (λ w. constant_word w (body.Ones s)) (sort_width items s) (λ n. refl)
body_constant items (body.Const s d v) = constant_by (λ n. entry.Constant n) (λ w. constant_word w (body.Const s d v)) (sort_width items s) (λ n. refl)
body_constant items (body.Constd s v) = constant_by (λ n. entry.Constant n) (λ w. constant_word w (body.Constd s v)) (sort_width items s) (λ n. refl)
body_constant items (body.Consth s d v) = constant_by (λ n. entry.Constant n) (λ w. constant_word w (body.Consth s d v)) (sort_width items s) (λ n. refl)
body_constant items b = constant_by (λ n. entry.Node n) (λ w. constant_word w b) (width_of_body items b) (λ n. refl)

-- of an id

pub sort_kept : (items : List Item) (id : ℕ) → entry_sort (entry_at items id) ≡ sort_width items id
sort_kept items id = by (find_item items id)
  where
    by : (o : Option Item) → entry_sort (option_map (λ (x : Item). entry_of items x.body) o) ≡ option_and_then (λ (x : Item). sort_bits x.body) o
    by (Some x) = body_sort items x.body
    by None = refl

pub node_kept : (items : List Item) (id : ℕ) → entry_node (entry_at items id) ≡ node_width items id
node_kept items id = by (find_item items id)
  where
    by : (o : Option Item) → entry_node (option_map (λ (x : Item). entry_of items x.body) o) ≡ option_and_then (λ (x : Item). width_of_body items x.body) o
    by (Some x) = body_node items x.body
    by None = refl

pub state_kept : (items : List Item) (id : ℕ) → is_some (node_width items id) ≡ true → is_state_entry (entry_at items id) ≡ names_state items id
state_kept items id = by (find_item items id)
  where
    one : (x : Item) (b : Bool) → b ≡ is_some (option_and_then (λ (y : Item). cond b (Some y) None) (Some x))
    one x true = refl
    one x false = refl

    by : (o : Option Item) → is_some (option_and_then (λ (x : Item). width_of_body items x.body) o) ≡ true → is_state_entry (option_map (λ (x : Item). entry_of items x.body) o) ≡ is_some (option_and_then (λ (x : Item). cond (is_state x.body) (Some x) None) o)
    by (Some x) some = body_state items x.body some ∙ one x (is_state x.body)
    by None some = refl

pub constant_kept : (items : List Item) (id : ℕ) → is_constant_entry (entry_at items id) ≡ is_some (constant_of items id)
constant_kept items id = by (find_item items id)
  where
    by : (o : Option Item) → is_constant_entry (option_map (λ (x : Item). entry_of items x.body) o) ≡ is_some (option_and_then (λ (x : Item). constant_of_body items x.body) o)
    by (Some x) = body_constant items x.body
    by None = refl

pub taken_kept : (items : List Item) (id : ℕ) → is_some (entry_at items id) ≡ is_some (find_item items id)
taken_kept items id = by (find_item items id)
  where
    by : (o : Option Item) → is_some (option_map (λ (x : Item). entry_of items x.body) o) ≡ is_some o
    by (Some x) = refl
    by None = refl

-- of ids

pub all_kept : (items : List Item) (kept : ℕ → Option Entry) (ids : List ℕ) → ((id : ℕ) → kept id ≡ entry_at items id)
    → list_all (λ a. is_some (entry_node (kept a))) ids ≡ list_all (λ a. is_some (node_width items a)) ids
all_kept items kept [] h = refl
all_kept items kept (a ∷ more) h = rw (h a, node_kept items a, all_kept items kept more h) refl

pub bits_kept : (items : List Item) (kept : ℕ → Option Entry) (ids : List ℕ) → ((id : ℕ) → kept id ≡ entry_at items id)
    → list_all (λ a. unwrap_or (entry_node (kept a)) 0 == 1) ids ≡ list_all (λ a. unwrap_or (node_width items a) 0 == 1) ids
bits_kept items kept [] h = refl
bits_kept items kept (a ∷ more) h = rw (h a, node_kept items a, bits_kept items kept more h) refl
