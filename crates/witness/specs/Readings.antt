-- Lines of a witness of either kind, admitted one by one: how far they are, what they say, and the first fault (the limit of lines is this project's).
use Rattle.std.specs.Prelude.{ℕ, ◌+◌, Bool, not, ◌&&◌, nat_le, List, [], ◌∷◌, Option, Some, None, Result, Ok, Err, if◌then◌else◌}
pub use Rattle.base.specs.Decimals.{is_nothing}
use Rattle.base.specs.Lines.{whole_lines, unfinished}
use Rattle.witness.specs.declared.why.Why.{Why}
use Rattle.witness.specs.declared.why.Why.TheVariants as why
use Rattle.witness.specs.Texts.{most_lines}

-- How lines are read: what is read before any, what a whole line says behind those that are read or why it is not admitted, and whether the last line of a
-- witness is read.
pub record Reader (R : Type 0) : Type 0 where
  pub nothing : R
  pub admit : R → List ℕ → Result R Why
  pub ended : R → Bool

-- How far whole lines are admitted: how many are, what they say, and why the next of them is not, where there is one.
pub record Reading (R : Type 0) : Type 0 where
  pub admitted : ℕ
  pub read : R
  pub refused : Option Why

-- what is read behind a line that says something: what is put there of that, or why the line says nothing
abbrev pub with_said : {A R : Type 0} → (A → R) → Result A Why → Result R Why
with_said put (Ok x) = Ok (put x)
with_said put (Err w) = Err w

-- so many are, and none is refused
abbrev pub so_far : {R : Type 0} → ℕ → R → Reading R
so_far n r = record { admitted = n; read = r; refused = None }

abbrev pub one_more_line : {R : Type 0} → Reading R → Result R Why → Reading R
one_more_line g (Ok r) = so_far (g.admitted + 1) r
one_more_line g (Err w) = record g { refused = Some w }

-- a whole line more: behind one that is not admitted none is, and none behind 2 ^ 62
abbrev pub next_line_of : {R : Type 0} → Reader R → Reading R → List ℕ → Option Why → Reading R
next_line_of reader g line (Some w) = g
next_line_of reader g line None =
    if nat_le most_lines g.admitted then record g { refused = Some why.TooLong } else one_more_line g (reader.admit g.read line)

unfoldable pub next_line : {R : Type 0} → Reader R → Reading R → List ℕ → Reading R
next_line reader g line = next_line_of reader g line g.refused

abbrev pub lines_behind : {R : Type 0} → Reader R → Reading R → List (List ℕ) → Reading R
lines_behind reader g [] = g
lines_behind reader g (line ∷ lines) = lines_behind reader (next_line reader g line) lines

abbrev pub lines_read : {R : Type 0} → Reader R → List (List ℕ) → Reading R
lines_read reader lines = lines_behind reader (so_far 0 reader.nothing) lines

-- how far the whole lines of a text are admitted
unfoldable pub reading : {R : Type 0} → Reader R → List ℕ → Reading R
reading reader text = lines_read reader (whole_lines text)

-- ---- a whole text

-- why the line after the last whole one is refused, of which there are n; nothing where it is empty and the witness has ended
abbrev pub last_refusal : Bool → ℕ → Bool → Option Why
last_refusal ended n empty =
    if ended && empty then None
    else (if nat_le most_lines n && not empty then Some why.TooLong else (if ended then Some why.Trailing else Some why.Truncated))

-- the faulty line, counted from 1, and its why
pub record Fault : Type 0 where
  pub line : ℕ
  pub why : Why

abbrev pub refused_for : {R : Type 0} → Reading R → Option Why → Result R Fault
refused_for g None = Ok g.read
refused_for g (Some w) = Err (record { line = g.admitted + 1; why = w })

-- what the lines read as, with the bytes behind the last of them, or the fault
abbrev pub read_or_fault : {R : Type 0} → (R → Bool) → Reading R → List ℕ → Option Why → Result R Fault
read_or_fault ended g last (Some w) = refused_for g (Some w)
read_or_fault ended g last None = refused_for g (last_refusal (ended g.read) g.admitted (is_nothing last))

-- what a text reads as, or its fault: the first whole line that is not admitted, else the line after the last whole one
abbrev pub text_read : {R : Type 0} → Reader R → List ℕ → Result R Fault
text_read reader text = read_or_fault reader.ended (reading reader text) (unfinished text) (reading reader text).refused
