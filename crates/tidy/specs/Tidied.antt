-- The strict text of a witness, of the text that a tool writes ("Btor2, BtorMC and Boolector 3.0", witness format; the AIGER format's witnesses, with the lines
-- `u<k>` of progress and comments behind a line `c`, as the hardware model checking competitions have them). What is tidied, and how, is this project's.
use Rattle.std.specs.Prelude.{ℕ, zero, suc, ◌-◌, Bool, true, false, ◌&&◌, ◌||◌, ◌==◌, List, [], ◌∷◌, ◌++◌, Option, Some, None, codes, map, if◌then◌else◌}
use Rattle.std.specs.Str.{bytes_eq}
use Rattle.base.specs.Decimals.{is_nothing}
use Rattle.base.specs.Lines.{whole_lines, unfinished}
use Rattle.tidy.specs.declared.place.Place.{Place}
use Rattle.tidy.specs.declared.place.Place.TheVariants as place
use Rattle.tidy.specs.Words.{words, joined, plain, unindented, begins_with, begins_digit}

-- ---- where a line stands

-- how many witnesses are to be passed over before the one that is wanted, and where the next line stands
pub record Stand : Type 0 where
  pub skip : ℕ
  pub place : Place

-- in front of the whole text, of which this witness is wanted, from 1
abbrev pub at_front : ℕ → Stand
at_front pick = record { skip = pick - 1; place = place.Front }

-- `u` and a digit: a line of progress
abbrev pub is_progress : List ℕ → Bool
is_progress [] = false
is_progress (b ∷ bs) = (b == 117) && begins_digit bs

-- what stands in front of a status line: nothing, a comment, or a line of progress
abbrev pub is_in_front : List ℕ → Bool
is_in_front words = is_nothing words || (begins_with 59 words || is_progress words)

-- behind a line that claims nothing, or that begins no witness
abbrev pub passed : ℕ → Place
passed zero = place.Passed
passed (suc n) = place.Skipped

-- behind a status line, or another line in its place
abbrev pub behind_status : ℕ → List ℕ → Place
behind_status skip words = if bytes_eq words (codes "sat") then place.Claims else (if bytes_eq words (codes "1") then place.BitClaim else passed skip)

-- the place behind a line of these words, where it is no end
abbrev pub place_after : ℕ → Place → List ℕ → Place
place_after skip place.Front words = if is_in_front words then place.Front else behind_status skip words
place_after skip place.Between words = if begins_with 99 words then place.Over else (if is_in_front words then place.Between else behind_status skip words)
place_after skip place.Claims words = if is_nothing words || begins_with 59 words then place.Claims else place.Parts
place_after skip place.Parts words = place.Parts
place_after skip place.BitClaim words = if is_nothing words then place.BitClaim else place.Initial
place_after skip place.Initial words = place.First
place_after skip place.First words = if is_nothing words then place.Empties else place.Frames
place_after skip place.Frames words = place.Frames
place_after skip place.Empties words = place.Empties
place_after skip place.Skipped words = place.Skipped
place_after skip place.Passed words = place.Passed
place_after skip place.Over words = place.Over

-- where the line `.` ends a witness, or what stands in the place of one that is passed over
abbrev pub may_end : Place → Bool
may_end place.Parts = true
may_end place.First = true
may_end place.Frames = true
may_end place.Empties = true
may_end place.Skipped = true
may_end _ = false

-- behind the end of a witness: of the one that is wanted, or of one that is passed over
abbrev pub behind_end : ℕ → Stand
behind_end zero = record { skip = zero; place = place.Over }
behind_end (suc n) = record { skip = n; place = place.Between }

abbrev pub behind_words : Stand → List ℕ → Stand
behind_words s words =
    if may_end s.place && bytes_eq words (codes ".") then behind_end s.skip else record { skip = s.skip; place = place_after s.skip s.place words }

-- behind a line
abbrev pub behind : Stand → List ℕ → Stand
behind s line = behind_words s (plain line)

-- ---- what is written of a line

-- `x` becomes `0`
abbrev pub zero_x : ℕ → ℕ
zero_x b = if b == 120 then 48 else b

-- in the value of an assignment, the second word
abbrev pub zero_value : List (List ℕ) → List (List ℕ)
zero_value [] = []
zero_value (w ∷ []) = w ∷ []
zero_value (w ∷ v ∷ more) = w ∷ map zero_x v ∷ more

-- a line in front of a status line: a comment keeps its bytes, and an empty line or one of progress goes
abbrev pub front_line : List ℕ → Option (List ℕ)
front_line line =
    if begins_with 59 (plain line) then Some (unindented line) else (if is_nothing (plain line) || is_progress (plain line) then None else Some (plain line))

-- what is written of a line at a place, without its end; nothing where the line goes. (Of a witness that is passed over no line is shown, whatever stands here.)
abbrev pub tidied_line : Place → List ℕ → Option (List ℕ)
tidied_line place.Front line = front_line line
tidied_line place.Between line = if begins_with 99 (plain line) then None else front_line line
tidied_line place.Claims line = if is_nothing (plain line) || begins_with 59 (plain line) then None else Some (plain line)
tidied_line place.Parts line = if is_nothing (plain line) || begins_with 59 (plain line) then None else Some (joined (zero_value (words line)))
tidied_line place.BitClaim line = if is_nothing (plain line) then None else Some (plain line)
tidied_line place.Initial line = Some (map zero_x (plain line))
tidied_line place.First line = Some (map zero_x (plain line))
tidied_line place.Frames line = if is_nothing (plain line) then None else Some (map zero_x (plain line))
tidied_line place.Empties line = Some (map zero_x (plain line))
tidied_line place.Skipped line = if is_nothing (plain line) then None else Some (plain line)
tidied_line place.Passed line = Some line
tidied_line place.Over line = None

-- with these bytes behind it, where it does not go
abbrev pub closed_by : List ℕ → Option (List ℕ) → List ℕ
closed_by end' None = []
closed_by end' (Some bytes) = bytes ++ end'

-- nothing while witnesses are passed over
abbrev pub shown : ℕ → List ℕ → List ℕ
shown zero bytes = bytes
shown (suc n) bytes = []

abbrev pub tidy_line : List ℕ → Stand → List ℕ → List ℕ
tidy_line end' s line = shown s.skip (closed_by end' (tidied_line s.place line))

-- ---- a whole text

-- of whole lines, each with its end, and of the bytes behind them
abbrev pub tidied_lines : Stand → List (List ℕ) → List ℕ → List ℕ
tidied_lines s [] rest = tidy_line [] s rest
tidied_lines s (line ∷ lines) rest = tidy_line (10 ∷ []) s line ++ tidied_lines (behind s line) lines rest

-- the strict text of the witness that is wanted, from 1
unfoldable pub tidied : ℕ → List ℕ → List ℕ
tidied pick text = tidied_lines (at_front pick) (whole_lines text) (unfinished text)
