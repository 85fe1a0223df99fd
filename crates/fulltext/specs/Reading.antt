-- Reading the text of a model of the whole safety language from left to right, with the first fault that is met: as a text of wide words is read, but for operands with
-- a minus, for sorts of arrays, `read` and `write`, and for the rows that refuse a line.
use Rattle.std.specs.Prelude.{ℕ, Bool, false, List, [], ◌∷◌, ◌++◌, Option, Some, None, Result, Ok, Err, codes, if◌then◌else◌}
use Rattle.std.specs.Str.{bytes_eq}
use Rattle.base.specs.Lines.{whole_lines, unfinished, line_after}
use Rattle.btor2text.specs.declared.fault.Why.{Why}
use Rattle.btor2text.specs.declared.fault.Why.TheVariants as why
use Rattle.btor2text.specs.declared.fault.ReadFault.{ReadFault}
use Rattle.btor2text.specs.declared.forms.Form.{Form}
use Rattle.btor2text.specs.declared.forms.Form.TheVariants as form
use Rattle.btor2text.specs.Tokens.{tokens}
use Rattle.btor2text.specs.Words.{form_of}
use Rattle.btor2text.specs.Reading.{◌>>=◌, Tokens, plain_at, sort_at, operand_at, triple_at, symbol_at, refused_why, line_fault}
use Rattle.widetext.specs.Reading.{wide_body_at}
use Rattle.full.specs.Lines.{operand, Says, form as form_says, array_sort, read, write, FullLine}
use Rattle.fullmodel.specs.declared.fault.LineFault.{LineFault}
use Rattle.fullmodel.specs.declared.fault.LineFault.TheVariants as fault
use Rattle.fullmodel.specs.FullModels.{line_refusal}
use Rattle.fulltext.specs.declared.kinds.Kind.{Kind}
use Rattle.fulltext.specs.declared.kinds.Kind.TheVariants as kind
use Rattle.fulltext.specs.Signs.{signs_behind, unsigned_behind, kept_signs}

-- ---- words

-- the kind of a line, by what its word is as a form
abbrev pub kind_by : List ℕ → Result Form Why → Result Kind Why
kind_by word (Ok f) = Ok (kind.Form f)
kind_by word (Err why.ArrayOperator) = if bytes_eq word (codes "read") then Ok kind.Read else Ok kind.Write
kind_by word (Err e) = Err e

-- the kind of a line, and the tokens behind its word
unfoldable pub kind_at : Tokens → Result (Kind × Tokens) Why
kind_at [] = Err why.BadToken
kind_at (word ∷ rest) = do
  k ← kind_by word (form_of word)
  Ok (k, rest)

-- ---- places of operands

-- how many tokens stand before those of the operands that may have a minus: a sort, or how many operands there are, or a sort and an array
abbrev pub places_before : Kind → ℕ
places_before (kind.Form (form.Property p)) = 0
places_before (kind.Form f) = 1
places_before kind.Read = 2
places_before kind.Write = 2

-- the number that a token in front says
abbrev pub told_by : Result (ℕ × Tokens) Why → ℕ
told_by (Ok x) = x.0
told_by (Err e) = 0

-- how many operands may have a minus
abbrev pub operand_count : Kind → Tokens → ℕ
operand_count (kind.Form (form.Extension x)) tokens = 1
operand_count (kind.Form form.Slice) tokens = 1
operand_count (kind.Form (form.Unary op)) tokens = 1
operand_count (kind.Form (form.Binary op)) tokens = 2
operand_count (kind.Form form.Concat) tokens = 2
operand_count (kind.Form form.Ite) tokens = 3
operand_count (kind.Form (form.Link l)) tokens = 2
operand_count (kind.Form (form.Property p)) tokens = 1
operand_count (kind.Form form.Justice) tokens = told_by (plain_at tokens)
operand_count (kind.Form f) tokens = 0
operand_count kind.Read tokens = 1
operand_count kind.Write tokens = 2

-- ---- what lines say

-- the first of some minuses, and the second
abbrev pub first_sign : List Bool → Bool
first_sign [] = false
first_sign (m ∷ ms) = m

abbrev pub second_sign : List Bool → Bool
second_sign [] = false
second_sign (m ∷ ms) = first_sign ms

-- a form, of operands with these minuses
unfoldable pub form_at : Form → Tokens → List Bool → Result (Says × Tokens) Why
form_at f tokens ms = do
  x ← wide_body_at f tokens
  Ok (form_says x.0 ms, x.1)

-- the sorts of index and element behind `array`
unfoldable pub array_at : Tokens → Result (Says × Tokens) Why
array_at tokens = do
  index ← sort_at tokens
  element ← sort_at index.1
  Ok (array_sort index.0 element.0, element.1)

-- a sort
unfoldable pub sort_said_at : Tokens → Result (Says × Tokens) Why
sort_said_at [] = Err why.BadToken
sort_said_at (token ∷ rest) = if bytes_eq token (codes "array") then array_at rest else form_at form.Sort (token ∷ rest) []

-- a read, and a write
unfoldable pub read_at : Tokens → List Bool → Result (Says × Tokens) Why
read_at tokens ms = do
  x ← triple_at tokens
  Ok (read x.0 x.1 (operand x.2 (first_sign ms)), x.3)

unfoldable pub write_at : Tokens → List Bool → Result (Says × Tokens) Why
write_at tokens ms = do
  x ← triple_at tokens
  e ← operand_at x.3
  Ok (write x.0 x.1 (operand x.2 (first_sign ms)) (operand e.0 (second_sign ms)), e.1)

-- what the tokens behind a line's word say, of operands with these minuses
abbrev pub says_at : Kind → Tokens → List Bool → Result (Says × Tokens) Why
says_at (kind.Form form.Sort) tokens ms = sort_said_at tokens
says_at (kind.Form f) tokens ms = form_at f tokens ms
says_at kind.Read tokens ms = read_at tokens ms
says_at kind.Write tokens ms = write_at tokens ms

-- the same, of operands as the tokens have them
unfoldable pub said_at : Kind → Tokens → Result (Says × Tokens) Why
said_at k tokens = says_at k (unsigned_behind (places_before k) (operand_count k tokens) tokens) (kept_signs (signs_behind (places_before k) (operand_count k tokens) tokens))

-- ---- lines

-- a line of these parts
abbrev pub numbered : ℕ → Option (List ℕ) → Says → FullLine
numbered id symbol b = record { id = id; symbol = symbol; says = b }

-- the line that a line's tokens spell
unfoldable pub full_line_at : Tokens → Result FullLine Why
full_line_at tokens = do
  id ← plain_at tokens
  k ← kind_at id.1
  b ← said_at k.0 k.1
  symbol ← symbol_at b.1
  Ok (numbered id.0 symbol b.0)

-- the why of a refusal
abbrev pub why_refused : LineFault → Why
why_refused (fault.Push e) = refused_why e
why_refused fault.ArraySort = why.ArraySort
why_refused fault.NegativeOperand = why.NegativeOperand

-- the lines with one more, where it is not refused
abbrev pub line_accepted : List FullLine → FullLine → Option LineFault → Result (List FullLine) Why
line_accepted before x None = Ok (before ++ x ∷ [])
line_accepted before x (Some e) = Err (why_refused e)

abbrev pub full_accepted : List FullLine → FullLine → Result (List FullLine) Why
full_accepted before x = line_accepted before x (line_refusal before x)

-- the lines after one more line of the text
unfoldable pub full_line_on : List FullLine → Tokens → Result (List FullLine) Why
full_line_on before [] = Ok before
full_line_on before (first ∷ rest) = do
  x ← full_line_at (first ∷ rest)
  full_accepted before x

-- what a line gave, and then the lines behind it; its fault is told with its number
abbrev pub then_lines : ℕ → Result (List FullLine) Why → (List FullLine → Result (List FullLine) ReadFault) → Result (List FullLine) ReadFault
then_lines n (Ok lines) others = others lines
then_lines n (Err e) others = Err (line_fault n e)

-- what line n + 1 and those after it give behind some lines; the last has no byte 10
unfoldable pub full_lines_on : ℕ → List FullLine → List (List ℕ) → List ℕ → Result (List FullLine) ReadFault
full_lines_on n before [] [] = Ok before
full_lines_on n before [] (b ∷ bs) = Err (line_fault (line_after n) why.Unfinished)
full_lines_on n before (line ∷ lines) last = then_lines (line_after n) (full_line_on before (tokens line)) (λ items. full_lines_on (line_after n) items lines last)

-- the lines that a text spells, or its fault
unfoldable pub full_text_on : List ℕ → Result (List FullLine) ReadFault
full_text_on text = full_lines_on 0 [] (whole_lines text) (unfinished text)
