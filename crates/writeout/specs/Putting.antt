-- How a list gets the leaves of a model.
use Rattle.std.specs.Prelude.{◌≡◌, ℕ, ◌+◌, ◌||◌, Bool, true, false, List, [], ◌∷◌, ◌++◌, length, map, Option, Some, None, slice_get}
use Rattle.std.specs.List.{AllByRecursion}
use Rattle.btor2.specs.declared.item.Item.{Item}
use Rattle.btor2.specs.declared.item.Body.{Body}
use Rattle.btor2.specs.declared.item.Body.TheVariants as body
use Rattle.btor2.specs.Items.{find_item, node_width, sort_width, constant_of, init_value, next_value, is_input, is_state}
use Rattle.btor2.specs.Lists.{of_kind}
use Rattle.wide.specs.WideModels.{greatest_width, IsWideModel}
use Rattle.full.specs.Lines.{Says, form, FullLine, is_form, width_of}
use Rattle.full.specs.Runs.{at_place}
use Rattle.full.specs.WrittenOut.{Stands}
use Rattle.cells.specs.Lines.{named, is_plain, Extends}
use Rattle.writeout.specs.declared.way.Way.TheVariants as way
use Rattle.writeout.specs.Ways.{way_of}
use Rattle.writeout.specs.Writings.{Writing, IsGiven}
use Rattle.writeout.specs.Leaves.{of_kind_lines}

-- ---- one line

-- a list gets a line of a sort of so many bits, behind plain lines
pub record Adds (old new : List Item) (says : ℕ → Body) (n a : ℕ) : Type 0 where
  pub before : List Item
  pub extends : Extends old before []
  pub sort : ℕ
  pub symbol : Option (List ℕ)
  pub is : new ≡ before ++ named a symbol (says sort) ∷ []
  pub fresh : find_item before a ≡ None
  pub id : a ≡ length before + 1
  pub width : sort_width before sort ≡ Some n

-- the state of a state line is its node, too, but where it is written by its first word
pub record IsStateLeaf (full : List FullLine) (id node leaf : ℕ) (by_first : Bool) : Type 0 where
  pub first : way_of full id ≡ way.First → (node ≡ 0) × (by_first ≡ true)
  pub other : (way_of full id ≡ way.First → ⊥) → node ≡ leaf

-- a list gets the leaf of a line, where it has one
abbrev pub PutsLeaf : List FullLine → ℕ → List Item → List Item → ℕ → ℕ → Bool → Says → Type 0
PutsLeaf full id old new node leaf by_first (form (body.Input s) minuses) = Adds old new (λ r. body.Input r) (width_of full id) node
PutsLeaf full id old new node leaf by_first (form (body.State s) minuses) = Adds old new (λ r. body.State r) (width_of full id) leaf × IsStateLeaf full id node leaf by_first
PutsLeaf full id old new node leaf by_first _ = (new ≡ old) × (node ≡ 0)

-- ---- the state that is 1 in the first frame alone

-- its lines
abbrev pub first_lines : ℕ → ℕ → ℕ → ℕ → ℕ → ℕ → List Item
first_lines a sort one nil i j =
    named a None (body.State sort) ∷ named one None (body.One sort) ∷ named nil None (body.Zero sort) ∷ named i None (body.Init sort a one) ∷ named j None (body.Next sort a nil) ∷ []

-- a list gets this state behind plain lines
pub record AddsFirst (old new : List Item) (a : ℕ) : Type 0 where
  pub before : List Item
  pub extends : Extends old before []
  pub model : IsWideModel greatest_width before
  pub fresh : find_item before a ≡ None
  pub id : a ≡ length before + 1
  pub sort : ℕ
  pub one : ℕ
  pub zero : ℕ
  pub i : ℕ
  pub j : ℕ
  pub is : new ≡ before ++ first_lines a sort one zero i j
  pub stands : Stands new a (body.State sort)
  pub width : node_width new a ≡ Some 1
  pub is_one : constant_of new one ≡ Some 1
  pub is_zero : constant_of new zero ≡ Some 0

-- where a state is written by its first word
abbrev pub PutsFirst : Bool → List Item → List Item → ℕ → Type 0
PutsFirst true old new a = AddsFirst old new a
PutsFirst false old new a = (new ≡ old) × (a ≡ 0)

-- ---- the leaves of a front

-- no state has an init or a next line
abbrev pub HasNoNexts : List Item → Type 0
HasNoNexts items = (id : ℕ) → (init_value items id ≡ None) × (next_value items id ≡ None)

pub record InputMade (full : List FullLine) (items : List Item) (source : ℕ → ℕ) (id a : ℕ) : Type 0 where
  pub given : IsGiven a
  pub sort : ℕ
  pub stands : Stands items a (body.Input sort)
  pub width : node_width items a ≡ Some (width_of full id)
  pub own : source a ≡ id

pub record StateMade (full : List FullLine) (items : List Item) (source : ℕ → ℕ) (id node a : ℕ) : Type 0 where
  pub given : IsGiven a
  pub sort : ℕ
  pub stands : Stands items a (body.State sort)
  pub width : node_width items a ≡ Some (width_of full id)
  pub own : source a ≡ id
  pub first : way_of full id ≡ way.First → node ≡ 0
  pub other : (way_of full id ≡ way.First → ⊥) → node ≡ a

-- what stands of the leaf of a line
abbrev pub LeafMade : List FullLine → List Item → (ℕ → ℕ) → ℕ → ℕ → ℕ → Says → Type 0
LeafMade full items source id node leaf (form (body.Input s) minuses) = InputMade full items source id node
LeafMade full items source id node leaf (form (body.State s) minuses) = StateMade full items source id node leaf
LeafMade full items source id node leaf _ = node ≡ 0

-- a state of the list is that of a state line
abbrev pub IsStateOf : List FullLine → List ℕ → ℕ → Body → Type 0
IsStateOf front leaves a (body.State s) = (k : ℕ) × (x : FullLine) × (slice_get front k ≡ Some x) × (is_form is_state x.says ≡ true) × (at_place leaves k ≡ a)
IsStateOf front leaves a _ = Unit {0}

-- a sort, a constant, an operator or a leaf
abbrev pub is_early : Body → Bool
is_early b = is_plain b || (is_input b || is_state b)

-- The list has the leaves of the first lines, and besides them plain lines alone.
pub record LeavesMade (full front : List FullLine) (items : List Item) (nodes leaves : List ℕ) (any : Bool) : Type 0 where
  pub nodes_length : length nodes ≡ length front
  pub leaves_length : length leaves ≡ length front
  pub source : ℕ → ℕ
  pub each : (k : ℕ) (x : FullLine) → slice_get front k ≡ Some x → LeafMade full items source x.id (at_place nodes k) (at_place leaves k) x.says
  pub any_first : (k : ℕ) (x : FullLine) → slice_get front k ≡ Some x → is_form is_state x.says ≡ true → way_of full x.id ≡ way.First → any ≡ true
  pub in_order : of_kind_lines is_input front nodes ≡ map (λ (y : Item). y.id) (of_kind is_input items)
  pub states_in_order : of_kind_lines is_state front leaves ≡ map (λ (y : Item). y.id) (of_kind is_state items)
  pub no_others : AllByRecursion (λ (y : Item). IsStateOf front leaves y.id y.body) items
  pub early : AllByRecursion (λ (y : Item). is_early y.body ≡ true) items

-- the nodes that the leaves give the lines
pub record LeafNodes (full : List FullLine) (w : Writing) : Type 0 where
  pub inputs : (k : ℕ) (x : FullLine) → slice_get full k ≡ Some x → is_form is_input x.says ≡ true → IsGiven (at_place w.nodes k)
  pub states : (k : ℕ) (x : FullLine) → slice_get full k ≡ Some x → is_form is_state x.says ≡ true → (way_of full x.id ≡ way.First → ⊥) → IsGiven (at_place w.nodes k)
