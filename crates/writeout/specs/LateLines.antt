-- What a line without a value asks of a writing, and what the list gets by it.
use Rattle.std.specs.Prelude.{◌≡◌, ℕ, Bool, true, false, List, [], ◌∷◌, ◌++◌, Option, Some, None, is_some, ◌⊎◌}
use Rattle.btor2.specs.declared.item.Item.{Item}
use Rattle.btor2.specs.declared.item.Body.{Body}
use Rattle.btor2.specs.declared.item.Body.TheVariants as body
use Rattle.btor2.specs.Items.{node_width, constant_of, init_value, next_value}
use Rattle.cells.specs.Lines.{named}
use Rattle.full.specs.Lines.{Operand, FullLine, sort_of_node, width_of, init_of}
use Rattle.full.specs.Agreement.{element_sort, names_full_state}
use Rattle.full.specs.Runs.{first_word}
use Rattle.full.specs.WrittenOut.{InFrames, read_by, HasWord}
use Rattle.writeout.specs.declared.way.Way.TheVariants as way
use Rattle.writeout.specs.Ways.{way_of}
use Rattle.writeout.specs.Writings.{Writing, IsGiven, Settled, with_items, Grows}
use Rattle.writeout.specs.Nodes.{NodesStand}
use Rattle.writeout.specs.Leaves.{node_at, leaf_at, HasNodes, LeavesWritten}
use Rattle.writeout.specs.Late.{LateWritten}

-- all nodes and leaves stand, and of the lines without a value those of a front
pub record StandsAt (full done : List FullLine) (w : Writing) : Type 0 where
  pub nodes : NodesStand full w
  pub each : HasNodes full w
  pub leaves : LeavesWritten full w
  pub late : LateWritten full done w

-- an operand is a node with a value, which has its node in the list
pub record HasItsNode (full : List FullLine) (w : Writing) (o : Operand) : Type 0 where
  pub there : is_some (sort_of_node full o.id) ≡ true
  pub given : IsGiven (node_at full w o.id)

-- a state may get its init line
pub record TakesInit (full : List FullLine) (w : Writing) (id : ℕ) (o : Operand) : Type 0 where
  pub state : names_full_state full id ≡ true
  pub init : init_of full id ≡ Some o
  pub value : HasItsNode full w o
  pub sorts : (sort_of_node full o.id ≡ sort_of_node full id) ⊎ (sort_of_node full o.id ≡ element_sort (sort_of_node full id))
  pub free : init_value w.items (leaf_at full w id) ≡ None

-- and its next line
pub record TakesNext (full : List FullLine) (w : Writing) (id : ℕ) (o : Operand) : Type 0 where
  pub state : names_full_state full id ≡ true
  pub value : HasItsNode full w o
  pub sorts : sort_of_node full o.id ≡ sort_of_node full id
  pub free : next_value w.items (leaf_at full w id) ≡ None

-- a node is a constant, as wide as a state, that has the first word of the state
pub record IsFirstConstant (full : List FullLine) (w : Writing) (id : ℕ) (o : Operand) (a : ℕ) : Type 0 where
  pub word : ℕ
  pub begins : constant_of w.items a ≡ Some word
  pub width : node_width w.items a ≡ Some (width_of full id)
  pub constant : Settled full w (λ p wide. InFrames wide (λ g. first_word full (read_by p g) id o ≡ word))

-- ---- what the list gets

-- the line of an init, a next, a property or an output
abbrev pub is_late : Body → Bool
is_late (body.Init s t v) = true
is_late (body.Next s t v) = true
is_late (body.Bad a) = true
is_late (body.Constraint a) = true
is_late (body.Output a) = true
is_late _ = false

-- lines of nodes, and behind them such a line of which something is so
pub record PutBehind (full : List FullLine) (w : Writing) (items : List Item) (Of : Writing → Body → Type 0) : Type 0 where
  pub between : List Item
  pub grows : Grows full w between
  pub id : ℕ
  pub symbol : Option (List ℕ)
  pub says : Body
  pub is : items ≡ between ++ named id symbol says ∷ []
  pub late : is_late says ≡ true
  pub of : Of (with_items w between) says

-- the init line of a state by a constant that has the state's first word
pub record IsInitOf (full : List FullLine) (id : ℕ) (o : Operand) (leaf : ℕ) (w : Writing) (b : Body) : Type 0 where
  pub sort : ℕ
  pub node : ℕ
  pub is : b ≡ body.Init sort leaf node
  pub word : ℕ
  pub begins : constant_of w.items node ≡ Some word
  pub constant : Settled full w (λ p wide. InFrames wide (λ g. first_word full (read_by p g) id o ≡ word))

-- the next line of a state by a node that has the word of an operand
pub record IsNextOf (full : List FullLine) (o : Operand) (leaf : ℕ) (w : Writing) (b : Body) : Type 0 where
  pub sort : ℕ
  pub node : ℕ
  pub is : b ≡ body.Next sort leaf node
  pub word : Settled full w (λ p wide. HasWord full p wide o node)

-- the line of a property or of an output whose node has the word of an operand
pub record IsShown (full : List FullLine) (o : Operand) (make : ℕ → Body) (w : Writing) (b : Body) : Type 0 where
  pub node : ℕ
  pub is : b ≡ make node
  pub word : Settled full w (λ p wide. HasWord full p wide o node)

-- the init line of a state that is not written by its first word, and else nothing
pub record InitIsPut (full : List FullLine) (w : Writing) (items : List Item) (id : ℕ) (o : Operand) : Type 0 where
  pub by_first : way_of full id ≡ way.First → items ≡ w.items
  pub by_constant : (way_of full id ≡ way.First → ⊥) → PutBehind full w items (IsInitOf full id o (leaf_at full w id))
