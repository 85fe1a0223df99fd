-- What stands while the lines of a list are written one after the other into the list with cells.
use Rattle.std.specs.Prelude.{◌≡◌, ℕ, ◌*◌, Bool, true, false, List, ◌++◌, map, flat_map, Some, IfSome, is_some, slice_get}
use Rattle.std.specs.List.{AllByRecursion, AllZip}
use Rattle.btor2.specs.declared.item.Item.{Item}
use Rattle.btor2.specs.declared.item.Body.{Body}
use Rattle.btor2.specs.declared.item.Body.TheVariants as body
use Rattle.btor2.specs.Items.{find_item, node_sort, sort_bits, sort_width, node_width, constant_word, constant_of, names_state, is_state, is_bad, is_constraint, init_value, next_value}
use Rattle.btor2.specs.Trace.{bits_of}
use Rattle.btor2.specs.Reachability.{nodes_of}
use Rattle.wide.specs.WideModels.{greatest_width, IsWideModel}
use Rattle.full.specs.WrittenOut.{InFrames}
use Rattle.fit.specs.Fitting.{is_output, pieces_word, Carries, InitIsCarried, TakesNext}
use Rattle.fitting.specs.Fitted.{is_leaf, leaf_ids}
use Rattle.fitting.specs.Models.{input_ids, state_ids}
use Rattle.fitting.specs.Names.{names_of}
use Rattle.writeout.specs.Faults.{NoneIsLiveItem}
use Rattle.cells.specs.Lines.{IsAmong}
use Rattle.celled.specs.Celled.{HasCells}
use Rattle.celled.specs.Names.{CellsAreNamed}
use Rattle.celled.specs.Spots.{Spots, layout_by}

-- the same form over other sorts and nodes
abbrev pub renamed : (ℕ → ℕ) → Body → Body
renamed to (body.Sort n) = body.Sort n
renamed to (body.Input s) = body.Input (to s)
renamed to (body.State s) = body.State (to s)
renamed to (body.Zero s) = body.Zero (to s)
renamed to (body.One s) = body.One (to s)
renamed to (body.Ones s) = body.Ones (to s)
renamed to (body.Const s d v) = body.Const (to s) d v
renamed to (body.Constd s v) = body.Constd (to s) v
renamed to (body.Consth s d v) = body.Consth (to s) d v
renamed to (body.Uext s a by) = body.Uext (to s) (to a) by
renamed to (body.Sext s a by) = body.Sext (to s) (to a) by
renamed to (body.Slice s a u l) = body.Slice (to s) (to a) u l
renamed to (body.Unary op s a) = body.Unary op (to s) (to a)
renamed to (body.Binary op s a b) = body.Binary op (to s) (to a) (to b)
renamed to (body.Concat s a b) = body.Concat (to s) (to a) (to b)
renamed to (body.Ite s c t e) = body.Ite (to s) (to c) (to t) (to e)
renamed to (body.Init s t v) = body.Init (to s) (to t) (to v)
renamed to (body.Next s t v) = body.Next (to s) (to t) (to v)
renamed to (body.Bad a) = body.Bad (to a)
renamed to (body.Constraint a) = body.Constraint (to a)
renamed to (body.Fair a) = body.Fair (to a)
renamed to (body.Output a) = body.Output (to a)
renamed to (body.Justice nodes) = body.Justice (map to nodes)

-- whether a form has one operand or none, and no digits
abbrev pub is_small : Body → Bool
is_small (body.Sort n) = true
is_small (body.Input s) = true
is_small (body.State s) = true
is_small (body.Zero s) = true
is_small (body.One s) = true
is_small (body.Ones s) = true
is_small (body.Uext s a by) = true
is_small (body.Sext s a by) = true
is_small (body.Slice s a u l) = true
is_small (body.Unary op s a) = true
is_small (body.Bad a) = true
is_small (body.Constraint a) = true
is_small (body.Fair a) = true
is_small (body.Output a) = true
is_small _ = false

-- lists and spots that others may come to: the spots of earlier lines stay
pub record GoesOn (wide : List Item) (t : Spots) (celled wide' : List Item) (t' : Spots) (celled' : List Item) : Type 0 where
  pub lines : List Item
  pub wide_is : wide' ≡ wide ++ lines
  pub more : List Item
  pub is : celled' ≡ celled ++ more
  pub wide_model : IsWideModel greatest_width wide'
  pub model : IsWideModel greatest_width celled'
  pub node : (id : ℕ) → is_some (find_item wide id) ≡ true → t'.node id ≡ t.node id
  pub first : (id : ℕ) → is_some (find_item wide id) ≡ true → t'.first id ≡ t.first id
  pub count : (id : ℕ) → is_some (find_item wide id) ≡ true → t'.count id ≡ t.count id
  pub line : (id : ℕ) → is_some (find_item wide id) ≡ true → t'.line id ≡ t.line id

-- something is so of each of them
abbrev pub Settled : List Item → Spots → List Item → (List Item → Spots → List Item → Type 0) → Type 0
Settled wide t celled Of = (wide' : List Item) (t' : Spots) (celled' : List Item) → GoesOn wide t celled wide' t' celled' → Of wide' t' celled'

-- a node has a whole word of the width of its sort, and cells of one width, which make it in each frame from words that fit
pub record HasWord (wide : List Item) (t : Spots) (celled : List Item) (id sort : ℕ) : Type 0 where
  pub bits : ℕ
  pub size : ℕ
  pub sort_bits : sort_width wide sort ≡ Some bits
  pub node : node_width celled (t.node id) ≡ Some bits
  pub cells : AllByRecursion (λ p. node_width celled p ≡ Some size) (layout_by t id)
  pub together : t.count id * size ≡ bits
  pub alone : t.count id ≡ 1 → t.first id ≡ t.node id
  pub word : InFrames celled (λ g. g (t.node id) ≡ pieces_word (bits_of celled) g (layout_by t id))

-- what a next line asks for
abbrev pub NextIsTaken : Spots → List Item → Body → Type 0
NextIsTaken t celled (body.Next s id v) = TakesNext (layout_by t) celled (Some v) (layout_by t id)
NextIsTaken t celled _ = Unit {0}

-- what stands of a line
pub record Stands (x : Item) (wide : List Item) (t : Spots) (celled : List Item) : Type 0 where
  pub line : slice_get wide (t.line x.id) ≡ Some x
  pub sort : IfSome (sort_bits x.body) (λ n. sort_width celled (t.node x.id) ≡ Some n)
  pub value : IfSome (node_sort x.body) (HasWord wide t celled x.id)
  pub constant : IfSome (constant_word (bits_of wide x.id) x.body) (λ w. constant_of celled (t.node x.id) ≡ Some w)
  pub carried : is_state x.body ≡ false → Carries wide (layout_by t) celled x
  pub leaf : is_leaf x ≡ true → AllByRecursion (λ p. names_state celled p ≡ is_state x.body) (layout_by t x.id)
  pub names : CellsAreNamed (layout_by t) celled x
  pub init : InitIsCarried wide (layout_by t) celled x.body
  pub next : NextIsTaken t celled x.body

-- an init line is that of a cell of a state with an init line, and a next line that of a cell of one with a next line
abbrev pub IsOwned : List Item → Spots → Body → Type 0
IsOwned wide t (body.Init s p c) = (id : ℕ) × (names_state wide id ≡ true) × IsAmong p (layout_by t id) × (is_some (init_value wide id) ≡ true)
IsOwned wide t (body.Next s p q) = (id : ℕ) × (names_state wide id ≡ true) × IsAmong p (layout_by t id) × (is_some (next_value wide id) ≡ true)
IsOwned wide t _ = Unit {0}

-- the lines of a kind name the whole words of the nodes that the others name, and have their names
pub record ShowsAlike (kind : Body → Bool) (wide : List Item) (t : Spots) (celled : List Item) : Type 0 where
  pub nodes : map t.node (nodes_of kind wide) ≡ nodes_of kind celled
  pub names : names_of kind wide ≡ names_of kind celled

-- A list is written so far, with cells of so many bits for the inputs and the states.
pub record IsSplit (wide : List Item) (t : Spots) (celled : List Item) (inputs states : List ℕ) : Type 0 where
  pub wide_model : IsWideModel greatest_width wide
  pub stand : AllByRecursion (λ (x : Item). Settled wide t celled (Stands x)) wide
  pub input_cells : Settled wide t celled (λ w u n. AllZip (HasCells (layout_by u) n) (input_ids wide) inputs)
  pub state_cells : Settled wide t celled (λ w u n. AllZip (HasCells (layout_by u) n) (state_ids wide) states)
  pub leaves : flat_map (layout_by t) (leaf_ids wide) ≡ leaf_ids celled
  pub owners : AllByRecursion (λ (y : Item). IsOwned wide t y.body) celled
  pub bads : ShowsAlike is_bad wide t celled
  pub constraints : ShowsAlike is_constraint wide t celled
  pub outputs : ShowsAlike is_output wide t celled
  pub forms : NoneIsLiveItem wide → NoneIsLiveItem celled
