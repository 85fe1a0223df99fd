-- The lines that go on to the judge of the fitted model: those that a line is spread to, and for a faulty line one that is faulty for the same why.
use Rattle.std.specs.Prelude.{ℕ, min, List, [], ◌∷◌, ◌++◌, Option, Some, None, Result, Ok, Err, decimal, map, flat_map, replicate, slice_index, unwrap_or, if◌then◌else◌}
use Rattle.base.specs.Lines.{whole_lines, text_of_lines}
use Rattle.base.specs.Decimals.{number_of}
use Rattle.witness.specs.declared.why.Why.{Why}
use Rattle.witness.specs.declared.why.Why.TheVariants as why
use Rattle.witness.specs.declared.judgement.Judgement.{Judgement}
use Rattle.witness.specs.declared.judgement.Judgement.TheVariants as judgement
use Rattle.witness.specs.Texts.{Shape, Assignment, assignment_line, symbol_part}
use Rattle.witness.specs.Readings.{Reading, so_far}
use Rattle.witness.specs.Admits.{Place, InStates, InFrame, Read, nothing_read, assignment_at, begins_part, cut_at_space}
use Rattle.rejoin.specs.Pieces.{cut_width, first_piece, split_part, joined_judgement}
use Rattle.spread.specs.Spread.{lines_by}

-- behind the index of a piece of so many bits: no value, bits that are undetermined, or a value and an empty symbol
abbrev pub faulty_rest : ℕ → Why → Option (List ℕ)
faulty_rest width why.Undetermined = Some (replicate width 120)
faulty_rest width why.BadSymbol = Some (replicate width 48 ++ 32 ∷ [])
faulty_rest width _ = None

-- a line that is faulty for a why: without an index, or with that of the lowest piece of the word
abbrev pub faulty_line : List ℕ → ℕ → Why → List ℕ
faulty_line widths i why.BadIndex = []
faulty_line widths i w = decimal (first_piece widths i) ++ symbol_part (faulty_rest (min (slice_index widths i) 64) w)

-- the index that a line begins with
abbrev pub index_named : List ℕ → ℕ
index_named line = unwrap_or (number_of (cut_at_space line).0) 0

-- the lines that go on for a line of an assignment, by what is read of it alone
abbrev pub assigned_lines : List ℕ → List ℕ → Result (List Assignment) Why → List (List ℕ)
assigned_lines widths line (Ok list) = map (assignment_line (flat_map cut_width widths)) (split_part widths list)
assigned_lines widths line (Err w) = faulty_line widths (index_named line) w ∷ []

-- for a line in a part, which may open another part or end the text
abbrev pub passing_in : List ℕ → List ℕ → List (List ℕ)
passing_in widths line = if begins_part line then line ∷ [] else assigned_lines widths line (assignment_at widths [] line)

-- for a line at a place
abbrev pub passing_at : Shape → Place → List ℕ → List (List ℕ)
passing_at shape InStates line = passing_in shape.states line
passing_at shape InFrame line = passing_in shape.inputs line
passing_at shape _ line = line ∷ []

-- behind a faulty line none does
abbrev pub passing_behind : Shape → Place → List ℕ → Option Why → List (List ℕ)
passing_behind shape at line None = passing_at shape at line
passing_behind shape at line (Some w) = []

-- for lines behind what is read
abbrev pub passing_lines : Shape → Reading Read → List (List ℕ) → List (List ℕ)
passing_lines shape g lines = lines_by shape (λ g line. passing_behind shape g.read.place line g.refused) g lines

-- the text that goes on for the whole lines of a text
abbrev pub passing_text : Shape → List ℕ → List ℕ
passing_text shape text = text_of_lines (passing_lines shape (so_far 0 nothing_read) (whole_lines text))

-- what is told of a text where this is judged of what went on for it: a line that is not admitted is the one with this number
abbrev pub told : Shape → ℕ → Judgement → Judgement
told shape line (judgement.Malformed other w) = judgement.Malformed line w
told shape line j = joined_judgement shape j
