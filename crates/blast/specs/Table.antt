-- What the rows of a lowering are while it is made.
use Rattle.std.specs.Prelude.{◌≡◌, ℕ, suc, ◌+◌, ◌≤◌, true, List, Option, Some, option_and_then, if◌then◌else◌, is_some, All, length, map, sum_by, take, slice_get}
use Rattle.base.specs.Word.{bits}
use Rattle.btor2.specs.declared.item.Item.{Item}
use Rattle.btor2.specs.Items.{is_input, is_state, is_free, is_free_state, is_carried_state, position_of, node_width}
use Rattle.btor2.specs.Lists.{places}
use Rattle.btor2.specs.Trace.{Frame, bits_of}
use Rattle.btor2.specs.Leaves.{kind_width}
use Rattle.base.specs.Literal.{Valuation, literal_value}
use Rattle.aiger.specs.Net.{Net, IsDefined}
use Rattle.gates.specs.Made.{Grows}
use Rattle.blast.specs.Cost.{line_cost, input_width, given_width}
use Rattle.blast.specs.Leaves.{by_body}
use Rattle.blast.specs.declared.nodes.NextLeaf.{NextLeaf}
use Rattle.blast.specs.Reads.{Together, ReadsWord, RowReads, RowsRead, leaves_only}

-- a row that reads in every frame as a value of the frame, made with at most so many gates more
pub record MakesNode (items : List Item) (old new : Net) (most width : ℕ) (value : Frame → ℕ) (row : List ℕ) : Type 0 where
  pub grows : Grows old new most
  pub wide : length row ≡ width
  pub defined : All (IsDefined new) row
  pub bits : (state input f : Frame) (v : Valuation) → Together items new state input f v → map (literal_value v) row ≡ bits width (value f)

-- the row of an item, made with at most its line's gates more
pub record MakesRow (items : List Item) (old new : Net) (x : Item) (row : List ℕ) : Type 0 where
  pub grows : Grows old new (line_cost items x.body)
  pub reads : RowReads items new x row

-- the row of the node with an id
abbrev pub row_of : List Item → List (List ℕ) → ℕ → Option (List ℕ)
row_of items rows id = option_and_then (slice_get rows) (position_of items id)

-- an operand: a node whose row is there and reads as its word
pub record IsOperand (items : List Item) (n : Net) (rows : List (List ℕ)) (id : ℕ) : Type 0 where
  pub row : List ℕ
  pub at : row_of items rows id ≡ Some row
  pub there : is_some (node_width items id) ≡ true
  pub some : 1 ≤ bits_of items id
  pub most : bits_of items id ≤ 64
  pub reads : ReadsWord items n id (bits_of items id) row

-- the sum of the gate bounds of some items of a model
abbrev pub cost_among : List Item → List Item → ℕ
cost_among items some = sum_by (λ x. line_cost items x.body) some

-- what the next leaf behind some items of a model has: variables are numbered the inputs' bits first, then those of the free states, then those of the other states
abbrev pub next_leaf : List Item → List Item → NextLeaf
next_leaf items some =
    record {
      input = suc (kind_width items (by_body is_input) some);
      free = suc (input_width items + kind_width items (is_free_state items) some);
      carried = suc (given_width items + kind_width items (is_carried_state items) some);
      state = length (places is_state 0 some);
    }

-- and what the leaf behind one item more has
abbrev pub next_after : List Item → Item → NextLeaf → NextLeaf
next_after items x next =
    if is_input x.body
    then record next { input = next.input + bits_of items x.id }
    else if is_state x.body
    then (if is_free items x.id then record next { free = next.free + bits_of items x.id; state = suc next.state } else record next { carried = next.carried + bits_of items x.id; state = suc next.state })
    else next

-- the rows of the first so many items, and what the next leaf has
pub record LowersFront (items : List Item) (place : ℕ) (n : Net) (rows : List (List ℕ)) (next : NextLeaf) : Type 0 where
  pub all : length rows ≡ place
  pub reads : RowsRead items n rows
  pub grows : Grows (leaves_only items) n (cost_among items (take place items))
  pub leaves : next ≡ next_leaf items (take place items)
