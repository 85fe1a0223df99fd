-- What a tidier holds, and what it writes byte by byte.
use Rattle.std.specs.Prelude.{Option, Ok, ◌≡◌, not, ◌||◌, ◌&&◌, ℕ, Bool, true, false, ◌==◌, List, [], ◌∷◌, ◌++◌, codes, if◌then◌else◌}
use Rattle.base.specs.Decimals.{is_digit}
use Rattle.base.specs.Writing.{WritesText}
use Rattle.tidy.specs.declared.place.Place.{Place}
use Rattle.tidy.specs.declared.place.Place.TheVariants as place
use Rattle.tidy.specs.declared.line.Said.{Said}
use Rattle.tidy.specs.declared.line.Said.TheVariants as said
use Rattle.tidy.specs.declared.line.Word.{Word}
use Rattle.tidy.specs.declared.line.Word.TheVariants as word
use Rattle.tidy.specs.declared.line.Line.{Line}
use Rattle.tidy.specs.declared.line.Line.TheVariants as line
use Rattle.tidy.specs.declared.tidier.Tidier.{Tidier}
use Rattle.tidy.specs.declared.tidying.Tidying.{Tidying}
use Rattle.tidy.specs.declared.tidier.Emitted.{Emitted}
use Rattle.tidy.specs.declared.tidier.Emitted.TheVariants as emitted
use Rattle.tidy.specs.Words.{is_gap}
use Rattle.tidy.specs.Tidied.{Stand, at_front, behind_words, zero_x, shown}

-- ---- what words say

abbrev pub said_first : ℕ → Said
said_first b = if b == 115 then said.S else (if b == 49 then said.One else (if b == 46 then said.Dot else said.Other))

abbrev pub said_more : Said → ℕ → Said
said_more said.S b = if b == 97 then said.Sa else said.Other
said_more said.Sa b = if b == 116 then said.Sat else said.Other
said_more _ b = said.Other

-- words that say so
abbrev pub spelled : Said → List ℕ
spelled said.S = codes "s"
spelled said.Sa = codes "sa"
spelled said.Sat = codes "sat"
spelled said.One = codes "1"
spelled said.Dot = codes "."
spelled said.Other = codes "?"

-- a line that is known so has words as these
abbrev pub spelled_line : Line → List ℕ
spelled_line line.Empty = []
spelled_line line.Copied = codes ";"
spelled_line line.Gone = codes ";"
spelled_line line.Held = codes "u"
spelled_line (line.Kept s w gap) = spelled s

abbrev pub later : Word → Word
later word.First = word.Second
later _ = word.Later

-- ---- a byte of a line

-- an `x` of this word becomes `0`
abbrev pub takes_x : Place → Word → Bool
takes_x place.Parts word.Second = true
takes_x place.Initial w = true
takes_x place.First w = true
takes_x place.Frames w = true
takes_x place.Empties w = true
takes_x _ w = false

abbrev pub changed : Place → Word → ℕ → ℕ
changed p w b = if takes_x p w then zero_x b else b

-- the first byte of the first word
abbrev pub first_kept : ℕ → Line
first_kept b = line.Kept (said_first b) word.First false

abbrev pub first_in_front : ℕ → Line
first_in_front b = if b == 59 then line.Copied else (if b == 117 then line.Held else first_kept b)

abbrev pub first_line : Place → ℕ → Line
first_line place.Front b = first_in_front b
first_line place.Between b = if b == 99 then line.Gone else first_in_front b
first_line place.Claims b = if b == 59 then line.Gone else first_kept b
first_line place.Parts b = if b == 59 then line.Gone else first_kept b
first_line _ b = first_kept b

abbrev pub first_place : Place → ℕ → Place
first_place place.Between b = if b == 99 then place.Over else place.Between
first_place p b = p

abbrev pub first_bytes : Place → ℕ → Line → List ℕ
first_bytes p b line.Copied = b ∷ []
first_bytes p b (line.Kept s w gap) = changed p word.First b ∷ []
first_bytes p b _ = []

-- the line with a byte more, its place, and the bytes that are written then
abbrev pub line_more : Place → Line → ℕ → Line
line_more p line.Empty b = if is_gap b then line.Empty else first_line p b
line_more p line.Copied b = line.Copied
line_more p line.Gone b = line.Gone
line_more p line.Held b = if is_digit b then line.Gone else line.Kept said.Other word.First (is_gap b)
line_more p (line.Kept s w gap) b =
    if is_gap b then line.Kept s w true else (if gap then line.Kept said.Other (later w) false else line.Kept (said_more s b) w false)

abbrev pub place_more : Place → Line → ℕ → Place
place_more p line.Empty b = if is_gap b then p else first_place p b
place_more p _ b = p

abbrev pub bytes_more : Place → Line → ℕ → List ℕ
bytes_more p line.Empty b = if is_gap b then [] else first_bytes p b (first_line p b)
bytes_more p line.Copied b = b ∷ []
bytes_more p line.Gone b = []
bytes_more p line.Held b = if is_digit b then [] else (if is_gap b then 117 ∷ [] else 117 ∷ changed p word.First b ∷ [])
bytes_more p (line.Kept s w gap) b =
    if is_gap b then [] else (if gap then 32 ∷ changed p (later w) b ∷ [] else changed p w b ∷ [])

-- ---- the end of a line

-- an empty line is written here
abbrev pub keeps_empty : Place → Bool
keeps_empty place.Initial = true
keeps_empty place.First = true
keeps_empty place.Empties = true
keeps_empty _ = false

-- what is held back, and then the end
abbrev pub held_bytes : Line → List ℕ
held_bytes line.Held = 117 ∷ []
held_bytes _ = []

abbrev pub is_kept : Place → Line → Bool
is_kept p line.Empty = keeps_empty p
is_kept p line.Gone = false
is_kept p _ = true

abbrev pub end_bytes : Place → Line → List ℕ
end_bytes p l = held_bytes l ++ (if is_kept p l then 10 ∷ [] else [])

-- a line of which no byte is known
abbrev pub new_line : Place → Line
new_line place.Passed = line.Copied
new_line place.Over = line.Gone
new_line _ = line.Empty

abbrev pub at_line : Stand → Tidier
at_line s = record { skip = s.skip; place = s.place; line = new_line s.place }

abbrev pub stand_of : Tidier → Stand
stand_of t = record { skip = t.skip; place = t.place }

abbrev pub behind_tidied : Tidier → Tidier
behind_tidied t = at_line (behind_words (stand_of t) (spelled_line t.line))

-- ---- bytes of a text

abbrev pub behind_byte : Tidier → ℕ → Tidier
behind_byte t b =
    if b == 10 then behind_tidied t else record { skip = t.skip; place = place_more t.place t.line b; line = line_more t.place t.line b }

abbrev pub byte_written : Tidier → ℕ → List ℕ
byte_written t b = shown t.skip (if b == 10 then end_bytes t.place t.line else bytes_more t.place t.line b)

-- the tidier behind these bytes, and what it has written then
abbrev pub behind_bytes : Tidier → List ℕ → Tidier
behind_bytes t [] = t
behind_bytes t (b ∷ bs) = behind_bytes (behind_byte t b) bs

abbrev pub bytes_written : Tidier → List ℕ → List ℕ
bytes_written t [] = []
bytes_written t (b ∷ bs) = byte_written t b ++ bytes_written (behind_byte t b) bs

-- what it writes where the text ends
abbrev pub last_written : Tidier → List ℕ
last_written t = shown t.skip (held_bytes t.line)

-- nothing of a line is written
abbrev pub is_gone : Line → Bool
is_gone line.Gone = true
is_gone _ = false

-- what is written for one byte, as the code has it
abbrev pub emitted_bytes : Emitted → List ℕ
emitted_bytes emitted.Nothing = []
emitted_bytes (emitted.Byte b) = b ∷ []
emitted_bytes (emitted.Pair b c) = b ∷ c ∷ []

-- bytes that a tidier writes as they are, or of which it writes none, and behind which it is as before
abbrev pub is_hidden : Tidier → Bool
is_hidden t = not (t.skip == 0) || is_gone t.line

pub record IsTidying (t : Tidier) (bytes : List ℕ) : Type 0 where
  pub behind : behind_bytes t bytes ≡ t
  pub written : bytes_written t bytes ≡ if is_hidden t then [] else bytes

-- a byte of a word that is written as it is, where `x` may become `0`
abbrev pub is_plain : Bool → ℕ → Bool
is_plain takes b = not (is_gap b) && not (takes && (b == 120))

-- a call that takes bytes puts what is written for them
pub record Takes {K : Type 0} (written : K → Option (List ℕ)) (failures : K → ℕ) (s t : K) (before after : Tidying) (bytes : List ℕ) : Type 0 where
  pub behind : after.tidier ≡ behind_bytes before.tidier bytes
  pub writes : WritesText written failures s t before.pen after.pen (bytes_written before.tidier bytes)

-- in front of the whole text, of which this witness is wanted, with nothing put
abbrev pub tidying_front : ℕ → Tidying
tidying_front pick = record { tidier = at_line (at_front pick); pen = record { outbox = []; line = []; answer = Ok tt } }
