-- The lines of a model of the whole safety language: words of any width and arrays of words, and operands with a minus
-- ("Btor2, BtorMC and Boolector 3.0", syntax: a negative id is that of a node whose bits are inverted; `sort array`, `read` and `write`).
-- A value of an array is the word of its cells, cell 0 lowest: cell i of n bits is the bits n * i to n * i + n - 1.
use Rattle.std.specs.Prelude.{ℕ, ◌*◌, ◌^◌, Bool, false, List, [], ◌∷◌, Option, Some, None, option_map, option_and_then, unwrap_or, ◌==◌, if◌then◌else◌, map, filter, flat_map}
use Rattle.std.specs.Option.{option_or}
use Rattle.btor2.specs.declared.item.Body.{Body}
use Rattle.btor2.specs.declared.item.Body.TheVariants as body
use Rattle.btor2.specs.Items.{node_sort, operands, sort_bits}

-- ---- lines

-- an operand: the id of a node, and whether it stands with a minus
pub record Operand : Type 0 where
  pub id : ℕ
  pub minus : Bool

abbrev pub operand : ℕ → Bool → Operand
operand id minus = record { id = id; minus = minus }

abbrev pub plain : ℕ → Operand
plain id = operand id false

-- What a line says: a form of words, with which of its operands stand with a minus, from left to right, the others without; a sort of arrays,
-- by the sorts of index and element; the word of a cell of an array; an array with another word in a cell.
pub data Says : Type 0 where
  form : Body → List Bool → Says
  array_sort : ℕ → ℕ → Says
  read : ℕ → ℕ → Operand → Says
  write : ℕ → ℕ → Operand → Operand → Says

-- a line: its id, its name, and what it says
pub record FullLine : Type 0 where
  pub id : ℕ
  pub symbol : Option (List ℕ)
  pub says : Says

-- some nodes as operands, with which of them stand with a minus
abbrev pub with_minuses : List ℕ → List Bool → List Operand
with_minuses [] minuses = []
with_minuses (a ∷ more) [] = plain a ∷ with_minuses more []
with_minuses (a ∷ more) (minus ∷ minuses) = operand a minus ∷ with_minuses more minuses

-- the operands of a line, from left to right
abbrev pub operands_of : Says → List Operand
operands_of (form b minuses) = with_minuses (operands b) minuses
operands_of (array_sort index element) = []
operands_of (read s array index) = plain array ∷ index ∷ []
operands_of (write s array index word) = plain array ∷ index ∷ word ∷ []

-- the second of two operands of a form: the value of an init or of a next
abbrev pub second : ℕ → List Bool → Operand
second v (m ∷ minus ∷ minuses) = operand v minus
second v _ = plain v

-- whether it is a form of a kind
abbrev pub is_form : (Body → Bool) → Says → Bool
is_form kind (form b minuses) = kind b
is_form kind _ = false

-- the lines of the forms of a kind, their operands, and their ids, in file order
abbrev pub lines_of : (Body → Bool) → List FullLine → List FullLine
lines_of kind lines = filter (λ (x : FullLine). is_form kind x.says) lines

abbrev pub full_nodes : (Body → Bool) → List FullLine → List Operand
full_nodes kind lines = flat_map (λ (x : FullLine). operands_of x.says) (lines_of kind lines)

abbrev pub full_ids : (Body → Bool) → List FullLine → List ℕ
full_ids kind lines = map (λ (x : FullLine). x.id) (lines_of kind lines)

-- ---- sorts and widths

-- a sort: words of so many bits, or arrays, by the widths of index and element
pub data Sort : Type 0 where
  words : ℕ → Sort
  arrays : ℕ → ℕ → Sort

-- how many bits a value has
abbrev pub sort_size : Sort → ℕ
sort_size (words n) = n
sort_size (arrays k n) = 2 ^ k * n

-- the first line with an id
abbrev pub find_line : List FullLine → ℕ → Option FullLine
find_line [] id = None
find_line (x ∷ xs) id = if id == x.id then Some x else find_line xs id

-- the width of a sort of words, by its id
abbrev pub line_bits : Says → Option ℕ
line_bits (form b minuses) = sort_bits b
line_bits _ = None

abbrev pub bits_at : List FullLine → ℕ → Option ℕ
bits_at lines id = option_and_then (λ (x : FullLine). line_bits x.says) (find_line lines id)

-- the sort that a line makes, and that with an id
abbrev pub line_sort : List FullLine → Says → Option Sort
line_sort lines (form b minuses) = option_map (λ n. words n) (sort_bits b)
line_sort lines (array_sort index element) = option_and_then (λ k. option_map (λ n. arrays k n) (bits_at lines element)) (bits_at lines index)
line_sort lines _ = None

abbrev pub sort_at : List FullLine → ℕ → Option Sort
sort_at lines id = option_and_then (λ (x : FullLine). line_sort lines x.says) (find_line lines id)

-- the id of the sort of a node with a value, its sort, and that of the node with an id
abbrev pub sort_named : Says → Option ℕ
sort_named (form b minuses) = node_sort b
sort_named (array_sort index element) = None
sort_named (read s array index) = Some s
sort_named (write s array index word) = Some s

abbrev pub sort_of : List FullLine → Says → Option Sort
sort_of lines b = option_and_then (sort_at lines) (sort_named b)

abbrev pub sort_of_node : List FullLine → ℕ → Option Sort
sort_of_node lines id = option_and_then (λ (x : FullLine). sort_of lines x.says) (find_line lines id)

-- how many bits the values of a sort, and of a node, have
abbrev pub size_of : Option Sort → ℕ
size_of s = unwrap_or (option_map sort_size s) 0

abbrev pub width_of : List FullLine → ℕ → ℕ
width_of lines id = size_of (sort_of_node lines id)

-- ---- init and next lines

-- something is so of the state and the value of an init line, and of a next line
abbrev pub AtInit : (ℕ → Operand → Type 0) → Says → Type 0
AtInit Of (form (body.Init s t v) minuses) = Of t (second v minuses)
AtInit Of _ = Unit {0}

abbrev pub AtNext : (ℕ → Operand → Type 0) → Says → Type 0
AtNext Of (form (body.Next s t v) minuses) = Of t (second v minuses)
AtNext Of _ = Unit {0}

-- the value of the init line of a state, and of its next line, where there is one
abbrev pub init_by : ℕ → Says → Option Operand
init_by id (form (body.Init s t v) minuses) = if id == t then Some (second v minuses) else None
init_by id _ = None

abbrev pub next_by : ℕ → Says → Option Operand
next_by id (form (body.Next s t v) minuses) = if id == t then Some (second v minuses) else None
next_by id _ = None

abbrev pub init_of : List FullLine → ℕ → Option Operand
init_of [] id = None
init_of (x ∷ xs) id = option_or (init_by id x.says) (init_of xs id)

abbrev pub next_of : List FullLine → ℕ → Option Operand
next_of [] id = None
next_of (x ∷ xs) id = option_or (next_by id x.says) (next_of xs id)
