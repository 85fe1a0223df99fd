-- The literals that a circuit's latches take from the rows of a model's nodes and from words.
use Rattle.std.specs.Prelude.{ℕ, suc, Bool, true, false, List, [], ◌∷◌, ◌==◌, Option, Some, None, if◌then◌else◌, option_and_then, unwrap_or, map, slice_get}
use Rattle.base.specs.Word.{bit, bits}
use Rattle.btor2.specs.declared.item.Item.{Item}
use Rattle.btor2.specs.Items.{position_of, next_value, is_carried_state, init_word}
use Rattle.aiger.specs.declared.circuit.Latch.{Latch}
use Rattle.aiger.specs.declared.circuit.Reset.{Reset}
use Rattle.aiger.specs.declared.circuit.Reset.TheVariants as reset
use Rattle.blast.specs.Leaves.{reset_of_bit}

-- the row of the node that an id may name, and none of no node
unfoldable pub row_at : List Item → List (List ℕ) → Option ℕ → List ℕ
row_at items rows id = unwrap_or (option_and_then (slice_get rows) (option_and_then (position_of items) id)) []

-- the literal of a bit: true or false
abbrev pub bit_literal : Bool → ℕ
bit_literal true = 1
bit_literal false = 0

-- the literals of the bits of a word that may be there
abbrev pub word_literals : ℕ → Option ℕ → List ℕ
word_literals width None = []
word_literals width (Some x) = map bit_literal (bits width x)

-- how a bit of a state begins
abbrev pub reset_at : Option ℕ → ℕ → Reset
reset_at None i = reset.Free
reset_at (Some x) i = reset_of_bit (bit x i == 1)

-- the latches of a row, from a bit on
unfoldable pub row_latches : Option ℕ → ℕ → List ℕ → List Latch
row_latches init i [] = []
row_latches init i (l ∷ row) = record { next = l; reset = reset_at init i } ∷ row_latches init (suc i) row

-- the latches of a state: of the row of its next node
abbrev pub state_latches : List Item → List (List ℕ) → Item → List Latch
state_latches items rows x = row_latches (init_word items x.id) 0 (row_at items rows (next_value items x.id))

-- the latches of an item: those of a state that is not free, and none of any other
abbrev pub item_latches : List Item → List (List ℕ) → Item → List Latch
item_latches items rows x = if is_carried_state items x then state_latches items rows x else []
