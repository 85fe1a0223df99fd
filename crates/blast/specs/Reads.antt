-- What the literals that a lowering keeps mean: in every frame and valuation that go together they read as the model's words.
use Rattle.std.specs.Prelude.{◌≡◌, ℕ, Bool, ◌==◌, List, [], ◌∷◌, Some, IfSome, All, length, map, slice_get}
use Rattle.base.specs.Word.{bits}
use Rattle.btor2.specs.declared.item.Item.{Item}
use Rattle.btor2.specs.declared.item.Body.{Body}
use Rattle.btor2.specs.declared.item.Body.TheVariants as body
use Rattle.btor2.specs.Items.{is_bad, is_constraint, is_carried_state, width_of_body}
use Rattle.btor2.specs.Trace.{Frame, IsFrame, IsState, IsInput, next_state}
use Rattle.aiger.specs.declared.circuit.Latch.{Latch}
use Rattle.base.specs.Literal.{Valuation, literal_value}
use Rattle.aiger.specs.Net.{Net, IsDefined, Satisfies, net_input_bits, latch_bits as net_latch_bits}
use Rattle.gates.specs.Made.{Grows}
use Rattle.blast.specs.Cost.{cost, given_width, carried_width}
use Rattle.blast.specs.Leaves.{by_body, given_by_kind, leaf_bits, leaf_resets, is_output, shown_bits, input_bits, state_bits}

-- a frame of the model and a valuation of the gates go together: they have the same bits of what is given and of what is carried
pub record Together (items : List Item) (n : Net) (state input f : Frame) (v : Valuation) : Type 0 where
  pub frame : IsFrame items state input f
  pub state_fits : IsState items state
  pub input_fits : IsInput items input
  pub satisfied : Satisfies n v
  pub inputs : net_input_bits n v ≡ input_bits items input
  pub latches : net_latch_bits n v ≡ state_bits items state

-- a row of literals reads as the word of the node with an id
pub record ReadsWord (items : List Item) (n : Net) (id width : ℕ) (row : List ℕ) : Type 0 where
  pub wide : length row ≡ width
  pub defined : All (IsDefined n) row
  pub bits : (state input f : Frame) (v : Valuation) → Together items n state input f v → map (literal_value v) row ≡ bits width (f id)

-- the row of an item: that of a node with a value reads as its word
abbrev pub RowReads : List Item → Net → Item → List ℕ → Type 0
RowReads items n x row = IfSome (width_of_body items x.body) (λ width. ReadsWord items n x.id width row)

-- each row that is there is that of the item at its place
abbrev pub RowsRead : List Item → Net → List (List ℕ) → Type 0
RowsRead items n rows = (place : ℕ) (x : Item) (row : List ℕ) → slice_get items place ≡ Some x → slice_get rows place ≡ Some row → RowReads items n x row

-- the net that a lowering begins with
abbrev pub leaves_only : List Item → Net
leaves_only items = record { inputs = given_width items; latches = carried_width items; gates = [] }

-- a row for each item, made with at most the stated number of gates
pub record LowersNodes (items : List Item) (old new : Net) (rows : List (List ℕ)) : Type 0 where
  pub all : length rows ≡ length items
  pub reads : RowsRead items new rows
  pub grows : Grows old new (cost items)

-- latches are those of the states among some items that are not free: they begin as the states do, and take their next words' bits
pub record LatchesRead (items : List Item) (n : Net) (some : List Item) (latches : List Latch) : Type 0 where
  pub defined : All (λ latch. IsDefined n latch.next) latches
  pub resets : map (λ latch. latch.reset) latches ≡ given_by_kind (is_carried_state items) (leaf_resets items) some
  pub nexts : (state input f : Frame) (v : Valuation) → Together items n state input f v → map (λ latch. literal_value v latch.next) latches ≡ given_by_kind (is_carried_state items) (leaf_bits items (next_state items f)) some

-- in every frame, literals have the values of the bits of the outputs among some items
pub record OutputsRead (items : List Item) (n : Net) (some : List Item) (outputs : List ℕ) : Type 0 where
  pub values : (state input f : Frame) (v : Valuation) → Together items n state input f v → map (literal_value v) outputs ≡ given_by_kind (by_body is_output) (λ x. shown_bits items f x.body) some

-- what the line of a bad property or of a constraint shows in a frame: whether its operand is 1
abbrev pub observed : Frame → Body → List Bool
observed f (body.Bad a) = (f a == 1) ∷ []
observed f (body.Constraint a) = (f a == 1) ∷ []
observed f _ = []

-- in every frame, literals have the values of the bad properties among some items
pub record BadsRead (items : List Item) (n : Net) (some : List Item) (bads : List ℕ) : Type 0 where
  pub values : (state input f : Frame) (v : Valuation) → Together items n state input f v → map (literal_value v) bads ≡ given_by_kind (by_body is_bad) (λ x. observed f x.body) some

-- in every frame, literals have the values of the constraints among some items
pub record ConstraintsRead (items : List Item) (n : Net) (some : List Item) (constraints : List ℕ) : Type 0 where
  pub values : (state input f : Frame) (v : Valuation) → Together items n state input f v → map (literal_value v) constraints ≡ given_by_kind (by_body is_constraint) (λ x. observed f x.body) some
