-- What stands of the nodes of a writing.
use Rattle.std.specs.Prelude.{◌≡◌, ℕ, ◌≤◌, Bool, true, false, List, Option, Some, slice_get, length, is_some, ◌⊎◌}
use Rattle.std.specs.List.{AllByRecursion}
use Rattle.writeout.specs.Needs.{place_of, needed}
use Rattle.btor2.specs.declared.item.Item.{Item}
use Rattle.btor2.specs.declared.item.Body.TheVariants as body
use Rattle.btor2.specs.Items.{node_width, names_state, is_input, is_state, constant_of, constant_word}
use Rattle.full.specs.Lines.{Operand, Says, form, FullLine, operands_of, is_form, Sort, words, arrays, sort_of_node, sort_named, width_of, init_of}
use Rattle.full.specs.Runs.{at_place}
use Rattle.full.specs.WrittenOut.{IsCarried, HasWord, HasFirstWord, Stands}
use Rattle.writeout.specs.declared.way.Way.TheVariants as way
use Rattle.writeout.specs.Ways.{way_of}
use Rattle.writeout.specs.Writings.{Writing, IsGiven, IsOther, Settled, OnlyChoose, with_items, Grows}

-- a node has the word of an operand
pub record OperandStands (full : List FullLine) (w : Writing) (o : Operand) (a : ℕ) : Type 0 where
  pub width : node_width w.items a ≡ Some (width_of full o.id)
  pub word : Settled full w (λ p wide. HasWord full p wide o a)
  pub other : IsOther w.first a

-- a node is the choice of the first word of a state and of its state
pub record IsChosen (full : List FullLine) (w : Writing) (id : ℕ) (o : Operand) (leaf a : ℕ) : Type 0 where
  pub sort : ℕ
  pub value : ℕ
  pub chooses : Stands w.items a (body.Ite sort w.first value leaf)
  pub word : Settled full w (λ p wide. HasFirstWord full p wide id o value)

-- the node of a constant is one of the same word
abbrev pub IsConstantOf : List FullLine → Writing → ℕ → Says → ℕ → Type 0
IsConstantOf full w id (form b minuses) a = is_some (constant_word 0 b) ≡ true → constant_of w.items a ≡ constant_word (width_of full id) b
IsConstantOf full w id _ a = Unit {0}

-- the node of a state is its state, or the choice where it is written by its first word
pub record StateNode (full : List FullLine) (w : Writing) (id leaf a : ℕ) : Type 0 where
  pub as_it_is : (way_of full id ≡ way.First → ⊥) → a ≡ leaf
  pub by_first : way_of full id ≡ way.First → (o : Operand) → init_of full id ≡ Some o → IsChosen full w id o leaf a

-- a node is that of a line, whose state is another, where it is a state
pub record LineStands (full : List FullLine) (w : Writing) (x : FullLine) (leaf a : ℕ) : Type 0 where
  pub width : node_width w.items a ≡ Some (width_of full x.id)
  pub carried : Settled full w (λ p wide. p.node x.id ≡ a → IsCarried full p wide x)
  pub other : IsOther w.first a
  pub constant : IsConstantOf full w x.id x.says a
  pub state : is_form is_state x.says ≡ true → StateNode full w x.id leaf a

-- the state of a state
pub record LeafStands (full : List FullLine) (w : Writing) (x : FullLine) (leaf : ℕ) : Type 0 where
  pub given : IsGiven leaf
  pub width : node_width w.items leaf ≡ Some (width_of full x.id)
  pub state : names_state w.items leaf ≡ true
  pub other : IsOther w.first leaf
  pub first : way_of full x.id ≡ way.First → IsGiven w.first

-- the state that is 1 in the first frame alone
pub record FirstStands (w : Writing) : Type 0 where
  pub width : node_width w.items w.first ≡ Some 1
  pub within : w.first ≤ length w.items

-- each node that there is is that of its line, and each state has its state
pub record NodesStand (full : List FullLine) (w : Writing) : Type 0 where
  pub nodes_length : length w.nodes ≡ length full
  pub leaves_length : length w.leaves ≡ length full
  pub lines : (k : ℕ) (x : FullLine) → slice_get full k ≡ Some x → IsGiven (at_place w.nodes k) → LineStands full w x (at_place w.leaves k) (at_place w.nodes k)
  pub leaves : (k : ℕ) (x : FullLine) → slice_get full k ≡ Some x → is_form is_state x.says ≡ true → LeafStands full w x (at_place w.leaves k)
  pub first : IsGiven w.first → FirstStands w
  pub only : OnlyChoose full w w.items

-- a line of a model, at its place
pub record IsLine (full : List FullLine) (x : FullLine) : Type 0 where
  pub place : ℕ
  pub at : slice_get full place ≡ Some x

-- the operands of a line have their nodes
abbrev pub OperandsDone : List FullLine → Writing → Says → Type 0
OperandsDone full w b = AllByRecursion (λ (o : Operand). IsGiven (at_place w.nodes (place_of full o.id))) (operands_of b)

-- a node of a line is made, by plain lines
pub record IsMade (full : List FullLine) (w : Writing) (items : List Item) (t : FullLine) (leaf id : ℕ) : Type 0 where
  pub node : LineStands full (with_items w items) t leaf id
  pub given : IsGiven id
  pub grows : Grows full w items

-- what is needed before the node of a line is made has its nodes
abbrev pub NeedsDone : List FullLine → Writing → FullLine → Type 0
NeedsDone full w x = AllByRecursion (λ a. IsGiven (at_place w.nodes (place_of full a))) (needed full x)

-- a line at a place
pub record LinePlace : Type 0 where
  pub line : FullLine
  pub place : ℕ

-- whether a word stands in each cell of a state
abbrev pub fills : Option Sort → Option Sort → Bool
fills (Some (arrays k n)) (Some (words m)) = true
fills _ _ = false

-- the value of an init is of the sort of its state, or a word of an element
abbrev pub FirstAgrees : List FullLine → ℕ → Operand → Type 0
FirstAgrees full id o =
    (sort_of_node full o.id ≡ sort_of_node full id) ⊎ ((k : ℕ) × (n : ℕ) × (sort_of_node full id ≡ Some (arrays k n)) × (sort_of_node full o.id ≡ Some (words n)))

-- a node has the word that a state begins with
pub record FirstWordStands (full : List FullLine) (w : Writing) (id : ℕ) (o : Operand) (v : ℕ) : Type 0 where
  pub width : node_width w.items v ≡ Some (width_of full id)
  pub word : Settled full w (λ p wide. HasFirstWord full p wide id o v)
  pub other : IsOther w.first v

-- A line that has no node yet is written: its node is made where it has a value and is no input, else it has none.
abbrev pub IsWritten : List FullLine → Writing → List Item → FullLine → ℕ → ℕ → Type 0
IsWritten full w items t leaf id =
    IsMade full w items t leaf id ⊎ ((id ≡ 0) × (items ≡ w.items) × ((is_some (sort_named t.says) ≡ true) → is_form is_input t.says ≡ true))

-- The line at a place is looked at: it has its node where it has a value and is no input, no other line's node is changed, and the list goes on by plain lines.
pub record IsPutAt (full : List FullLine) (place : ℕ) (old new : Writing) : Type 0 where
  pub stands : NodesStand full new
  pub kept : (k : ℕ) → IsGiven (at_place old.nodes k) → at_place new.nodes k ≡ at_place old.nodes k
  pub leaves : new.leaves ≡ old.leaves
  pub first : new.first ≡ old.first
  pub grows : Grows full old new.items
  pub node : (x : FullLine) → slice_get full place ≡ Some x → is_some (sort_named x.says) ≡ true → is_form is_input x.says ≡ false → IsGiven (at_place new.nodes place)
