-- What stands of the leaves of a writing.
use Rattle.std.specs.Prelude.{◌≡◌, ℕ, Bool, true, List, [], ◌∷◌, ◌++◌, map, Some, slice_get, is_some, ◌⊎◌, if◌then◌else◌}
use Rattle.std.specs.List.{AllByRecursion}
use Rattle.btor2.specs.declared.item.Item.{Item}
use Rattle.btor2.specs.declared.item.Body.{Body}
use Rattle.btor2.specs.declared.item.Body.TheVariants as body
use Rattle.btor2.specs.Items.{is_input, is_state, constant_of, init_value, next_value}
use Rattle.btor2.specs.Lists.{of_kind}
use Rattle.full.specs.Lines.{FullLine, is_form, sort_named}
use Rattle.full.specs.Runs.{at_place}
use Rattle.full.specs.WrittenOut.{Places, Stands, one_id}
use Rattle.writeout.specs.Needs.{place_of}
use Rattle.writeout.specs.Writings.{Writing, IsGiven, first_of}

-- the node, and the state, of the line with an id, by the places of the lines
abbrev pub node_at : List FullLine → Writing → ℕ → ℕ
node_at full w id = at_place w.nodes (place_of full id)

abbrev pub leaf_at : List FullLine → Writing → ℕ → ℕ
leaf_at full w id = at_place w.leaves (place_of full id)

-- the numbers of the lines of a kind among some lines, in file order, by the numbers of these lines
abbrev pub of_kind_lines : (Body → Bool) → List FullLine → List ℕ → List ℕ
of_kind_lines kind [] numbers = []
of_kind_lines kind (x ∷ xs) [] = []
of_kind_lines kind (x ∷ xs) (a ∷ numbers) = if is_form kind x.says then a ∷ of_kind_lines kind xs numbers else of_kind_lines kind xs numbers

-- each line with a value has its node
abbrev pub HasNodes : List FullLine → Writing → Type 0
HasNodes full w = (k : ℕ) (x : FullLine) → slice_get full k ≡ Some x → is_some (sort_named x.says) ≡ true → IsGiven (at_place w.nodes k)

-- an input of the list is that of an input line, whose it is by `source`, and a state that of a state line
pub record InputStands (w : Writing) (source : ℕ → ℕ) (x : FullLine) (a : ℕ) : Type 0 where
  pub given : IsGiven a
  pub sort : ℕ
  pub input : Stands w.items a (body.Input sort)
  pub own : source a ≡ x.id

-- a state of the list is the state of a state line, or the one that is 1 in the first frame alone
abbrev pub IsLeaf : List FullLine → Writing → ℕ → Body → Type 0
IsLeaf full w a (body.State s) = (first_of w.first ≡ Some a) ⊎ ((k : ℕ) × (x : FullLine) × (slice_get full k ≡ Some x) × (is_form is_state x.says ≡ true) × (at_place w.leaves k ≡ a))
IsLeaf full w a _ = Unit {0}

-- the state that is 1 in the first frame alone begins with 1 and takes 0
pub record FirstIsWritten (w : Writing) : Type 0 where
  pub sort : ℕ
  pub state : Stands w.items w.first (body.State sort)
  pub one : ℕ
  pub init : init_value w.items w.first ≡ Some one
  pub is_one : constant_of w.items one ≡ Some 1
  pub zero : ℕ
  pub next : next_value w.items w.first ≡ Some zero
  pub is_zero : constant_of w.items zero ≡ Some 0

-- The inputs of the list are the nodes of the model's input lines, in file order, and its states those of the state lines, with one more behind them for the first frame.
-- `source` answers the line of each such leaf, so no two lines have one.
pub record LeavesWritten (full : List FullLine) (w : Writing) : Type 0 where
  pub source : ℕ → ℕ
  pub inputs : (k : ℕ) (x : FullLine) → slice_get full k ≡ Some x → is_form is_input x.says ≡ true → InputStands w source x (at_place w.nodes k)
  pub in_order : of_kind_lines is_input full w.nodes ≡ map (λ (y : Item). y.id) (of_kind is_input w.items)
  pub states_in_order : of_kind_lines is_state full w.leaves ++ one_id (first_of w.first) ≡ map (λ (y : Item). y.id) (of_kind is_state w.items)
  pub states : (k : ℕ) (x : FullLine) → slice_get full k ≡ Some x → is_form is_state x.says ≡ true → source (at_place w.leaves k) ≡ x.id
  pub no_others : AllByRecursion (λ (y : Item). IsLeaf full w y.id y.body) w.items
  pub first : IsGiven w.first → FirstIsWritten w

-- the places that the tables and the lines of the leaves make
abbrev pub places_by : List FullLine → Writing → (ℕ → ℕ) → Places
places_by full w source = record { node = node_at full w; leaf = leaf_at full w; source = source; first = first_of w.first }
