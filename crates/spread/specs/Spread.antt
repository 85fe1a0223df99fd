-- The spread text of a witness over a model with words of any width: what it says over the model of the profile that the model is fitted into. Each of its lines
-- gives a piece of whole lines, by the line's place and its bytes alone ("Btor2, BtorMC and Boolector 3.0", witness format; how the one becomes the other is this
-- project's).
use Rattle.std.specs.Prelude.{ℕ, ◌≤◌, ◌^◌, List, [], ◌∷◌, ◌++◌, Option, Some, None, Result, Ok, Err, length, map, flat_map, if◌then◌else◌}
use Rattle.base.specs.Lines.{text_of_lines, whole_lines}
use Rattle.witness.specs.declared.why.Why.{Why}
use Rattle.witness.specs.Texts.{Shape, Assignment, assignment_line}
use Rattle.witness.specs.Readings.{Reading, so_far, next_line}
use Rattle.witness.specs.Admits.{Place, InStates, InFrame, Read, nothing_read, assignment_at, begins_part, word_reader}
use Rattle.rejoin.specs.Pieces.{cut_width, split_part}

-- the lines of the pieces of the word that a line gives, where it gives one; else the line itself
abbrev pub piece_lines : List ℕ → List ℕ → Result (List Assignment) Why → List (List ℕ)
piece_lines widths line (Ok list) = map (assignment_line (flat_map cut_width widths)) (split_part widths list)
piece_lines widths line (Err w) = line ∷ []

-- the same of a line in a part, which may open another part or end the text
abbrev pub part_lines : List ℕ → List ℕ → List (List ℕ)
part_lines widths line = if begins_part line then line ∷ [] else piece_lines widths line (assignment_at widths [] line)

-- the lines that a line at a place is spread to
abbrev pub spread_line : Shape → Place → List ℕ → List (List ℕ)
spread_line shape InStates line = part_lines shape.states line
spread_line shape InFrame line = part_lines shape.inputs line
spread_line shape _ line = line ∷ []

-- where it is admitted
abbrev pub admitted_line : Shape → Place → List ℕ → Option Why → List (List ℕ)
admitted_line shape at line None = spread_line shape at line
admitted_line shape at line (Some w) = []

-- what goes on for each of some lines, by what was read before it
abbrev pub lines_by : Shape → (Reading Read → List ℕ → List (List ℕ)) → Reading Read → List (List ℕ) → List (List ℕ)
lines_by shape going g [] = []
lines_by shape going g (line ∷ lines) = going g line ++ lines_by shape going (next_line (word_reader shape) g line) lines

-- the lines that those of a text before the faulty one are spread to, or those of all
abbrev pub spread_lines : Shape → List ℕ → List (List ℕ)
spread_lines shape text =
    lines_by shape (λ g line. admitted_line shape g.read.place line (next_line (word_reader shape) g line).refused) (so_far 0 nothing_read) (whole_lines text)

-- The spread text of a text: of its lines before the faulty one, or of all.
unfoldable pub spread_text : Shape → List ℕ → List ℕ
spread_text shape text = text_of_lines (spread_lines shape text)

-- A text has so few lines that those it is spread to are no more than a witness may have.
abbrev pub IsShort : List ℕ → Type 0
IsShort text = length (whole_lines text) ≤ 2 ^ 44
