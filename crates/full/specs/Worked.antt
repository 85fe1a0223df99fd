-- Worked rows: a model with a memory, an operand with a minus, an init by an input, and a state with an init line and no next line, and what it is written out as.
use Rattle.std.specs.Prelude.{ℕ, suc, true, false, List, [], ◌∷◌, Some, None, ◌==◌, if◌then◌else◌}
use Rattle.base.specs.declared.operators.Unary.TheVariants as unary
use Rattle.base.specs.declared.operators.Binary.TheVariants as binary
use Rattle.btor2.specs.declared.item.Item.{Item}
use Rattle.btor2.specs.declared.item.Body.{Body}
use Rattle.btor2.specs.declared.item.Body.TheVariants as body
use Rattle.btor2.specs.Trace.{Frame}
use Rattle.btor2.specs.Worked.{items_numbered}
use Rattle.full.specs.Lines.{operand, plain, Says, form, array_sort, read, write, FullLine}
use Rattle.full.specs.Cells.{read_value}
use Rattle.full.specs.Runs.{at_place}
use Rattle.full.specs.WrittenOut.{Places}

-- lines with no names and the ids from a number on
abbrev pub lines_numbered : ℕ → List Says → List FullLine
lines_numbered id [] = []
lines_numbered id (b ∷ bs) = record { id = id; symbol = None; says = b } ∷ lines_numbered (suc id) bs

-- A memory of two cells of two bits, 6: in each frame the cell that the input 4 says takes the input 5. The state 9 begins with the input 5, and has any word later.
-- Bad where the other cell than that of 4 is the word of 9.
abbrev pub memory : List FullLine
memory =
    lines_numbered 1
    (form (body.Sort 1) [] ∷ form (body.Sort 2) [] ∷ array_sort 1 2 ∷ form (body.Input 1) [] ∷ form (body.Input 2) [] ∷ form (body.State 3) [] ∷ write 3 6 (plain 4) (plain 5)
    ∷ form (body.Next 3 6 7) [] ∷ form (body.State 2) [] ∷ form (body.Init 2 9 5) [] ∷ read 2 6 (operand 4 true) ∷ form (body.Binary binary.Eq 1 11 9) [] ∷ form (body.Bad 12) [] ∷ [])

-- a frame by its words from id 0 on
abbrev pub frame_of : List ℕ → Frame
frame_of list = at_place list

-- its frames, by the words of the nodes 4, 5, 6, 7, 9, 11 and 12
abbrev pub memory_frame : ℕ → ℕ → ℕ → ℕ → ℕ → ℕ → ℕ → Frame
memory_frame cell word held written state other same = frame_of (0 ∷ 0 ∷ 0 ∷ 0 ∷ cell ∷ word ∷ held ∷ written ∷ 0 ∷ state ∷ 0 ∷ other ∷ same ∷ 0 ∷ [])

-- two bits of memory, negated as one word, which no operator of words takes
abbrev pub negated_memory : List FullLine
negated_memory = lines_numbered 1 (form (body.Sort 1) [] ∷ array_sort 1 1 ∷ form (body.State 2) [] ∷ form (body.Unary unary.Not 2 3) [] ∷ [])

-- the same with words alone: the states 6 and 7, the state that is 1 in the first frame alone, 8, and the choice of the first word and the state, 13; the cells of the memory are 15 and 14
abbrev pub memory_written_by : Body → Body → List Item
memory_written_by choice next =
    items_numbered 1
    (body.Sort 1 ∷ body.Sort 2 ∷ body.Sort 4 ∷ body.Input 1 ∷ body.Input 2 ∷ body.State 3 ∷ body.State 2 ∷ body.State 1 ∷ body.One 1 ∷ body.Zero 1 ∷ body.Init 1 8 9 ∷ next
    ∷ choice ∷ body.Slice 2 6 3 2 ∷ body.Slice 2 6 1 0 ∷ body.Ite 2 4 5 14 ∷ body.Ite 2 4 15 5 ∷ body.Concat 3 16 17 ∷ body.Next 3 6 18
    ∷ body.Unary unary.Not 1 4 ∷ body.Ite 2 20 14 15 ∷ body.Binary binary.Eq 1 21 13 ∷ body.Bad 22 ∷ [])

abbrev pub memory_written : List Item
memory_written = memory_written_by (body.Ite 2 8 5 7) (body.Next 1 8 10)

-- where its parts stand
abbrev pub by_pairs : List (ℕ × ℕ) → ℕ → ℕ
by_pairs [] id = 0
by_pairs (x ∷ xs) id = if id == x.0 then x.1 else by_pairs xs id

abbrev pub memory_places : Places
memory_places = record {
  node = by_pairs ((4, 4) ∷ (5, 5) ∷ (6, 6) ∷ (7, 18) ∷ (9, 13) ∷ (11, 21) ∷ (12, 22) ∷ []);
  leaf = by_pairs ((6, 6) ∷ (9, 7) ∷ []);
  source = by_pairs ((4, 4) ∷ (5, 5) ∷ (6, 6) ∷ (7, 9) ∷ []);
  first = Some 8;
}

-- an array of two cells of two bits, 5, that begins with the negated word of 4 in each cell, and keeps its word; its cell 0 is the output
abbrev pub filled : List FullLine
filled =
    lines_numbered 1
    (form (body.Sort 1) [] ∷ form (body.Sort 2) [] ∷ array_sort 1 2 ∷ form (body.Const 2 2 2) [] ∷ form (body.State 3) [] ∷ form (body.Init 3 5 4) (false ∷ true ∷ [])
    ∷ form (body.Next 3 5 5) [] ∷ form (body.Zero 1) [] ∷ read 2 5 (plain 8) ∷ form (body.Output 9) [] ∷ [])

-- its frames, by the word of the array
abbrev pub filled_frame : ℕ → Frame
filled_frame held = frame_of (0 ∷ 0 ∷ 0 ∷ 0 ∷ 2 ∷ held ∷ 0 ∷ 0 ∷ 0 ∷ read_value 2 held 0 ∷ [])

-- the same with words alone: the array 5, the constant 6 that it begins with, and the cell 9
abbrev pub filled_written : ℕ → List Item
filled_written begin =
    items_numbered 1
    (body.Sort 1 ∷ body.Sort 2 ∷ body.Sort 4 ∷ body.Const 2 2 2 ∷ body.State 3 ∷ body.Const 3 4 begin ∷ body.Init 3 5 6 ∷ body.Next 3 5 5 ∷ body.Slice 2 5 1 0 ∷ body.Zero 1 ∷ body.Output 9 ∷ [])

abbrev pub filled_places : Places
filled_places = record {
  node = by_pairs ((4, 4) ∷ (5, 5) ∷ (8, 10) ∷ (9, 9) ∷ []);
  leaf = by_pairs ((5, 5) ∷ []);
  source = by_pairs ((5, 5) ∷ []);
  first = None;
}
