-- What a text of an invariant reads as: its cubes, or its first faulty line and why. The text is a PLA as ABC writes it (`pdr -d -I`): the counts of latches,
-- outputs and cubes, the latches' names, the output's name, a line for each cube, and the end. A name is `lo` and the latch's number, counted from 0, with
-- zeros in front. Lines without a byte, and those that begin with `#`, are passed over.
use Rattle.std.specs.Prelude.{◌≡◌, ℕ, suc, pred, ◌+◌, ◌-◌, ◌*◌, ◌^◌, min, Bool, true, false, not, ◌&&◌, ◌||◌, ◌==◌, nat_eq, nat_lt, List, [], ◌∷◌, ◌++◌, length, Option, None, Some, Result, Ok, Err, codes, if◌then◌else◌}
use Rattle.std.specs.List.{list_all, list_any}
use Rattle.std.specs.Str.{bytes_eq}
use Rattle.base.specs.Lines.{whole_lines, unfinished, onto_first, line_after}
use Rattle.base.specs.Decimals.{number_of}
use Rattle.certificates.specs.declared.expected.Expected.{Expected}
use Rattle.certificates.specs.declared.expected.Expected.TheVariants as expect
use Rattle.certificates.specs.declared.why.InvariantWhy.{InvariantWhy}
use Rattle.certificates.specs.declared.why.InvariantWhy.TheVariants as why
use Rattle.certificates.specs.declared.why.InvariantFault.{InvariantFault}
use Rattle.certificates.specs.Invariants.{asks_one}

-- ---- words

-- the words of a line: a blank stands between two of them, and they may have no byte
abbrev pub line_words : List ℕ → List (List ℕ)
line_words [] = [] ∷ []
line_words (b ∷ bs) = if b == 32 then [] ∷ line_words bs else onto_first b (line_words bs)

-- the words behind the first, where that is a key
abbrev pub behind_key : List ℕ → List (List ℕ) → Option (List (List ℕ))
behind_key key [] = None
behind_key key (word ∷ more) = if bytes_eq word key then Some more else None

-- one word and no more
abbrev pub sole : List (List ℕ) → Option (List ℕ)
sole [] = None
sole (word ∷ []) = Some word
sole (word ∷ next ∷ more) = None

-- the one word behind a key
abbrev pub sole_behind : Option (List (List ℕ)) → Option (List ℕ)
sole_behind None = None
sole_behind (Some more) = sole more

abbrev pub value_behind : List ℕ → List ℕ → Option (List ℕ)
value_behind key line = sole_behind (behind_key key (line_words line))

-- the decimal behind a key
abbrev pub decimal_of : Option (List ℕ) → Option ℕ
decimal_of None = None
decimal_of (Some word) = number_of word

-- ---- names

-- digits without the zeros in front; of zeros alone the last stays
abbrev pub without_zeros : List ℕ → List ℕ
without_zeros [] = []
without_zeros (b ∷ []) = b ∷ []
without_zeros (b ∷ c ∷ more) = if b == 48 then without_zeros (c ∷ more) else b ∷ c ∷ more

-- the latch that a name says
abbrev pub latch_named : List ℕ → Option ℕ
latch_named [] = None
latch_named (b ∷ []) = None
latch_named (b ∷ c ∷ digits) = if b == 108 && c == 111 then number_of (without_zeros digits) else None

-- a latch more, of so many, behind those named before; or why not
abbrev pub with_named_latch : ℕ → List ℕ → Option ℕ → Result (List ℕ) InvariantWhy
with_named_latch latches named None = Err why.BadNames
with_named_latch latches named (Some k) =
    if not (nat_lt k latches) then Err why.NoSuchLatch
    else (if list_any (nat_eq k) named then Err why.NamedTwice else Ok (named ++ k ∷ []))

-- the latches that words name in turn, behind those named before; or why not
abbrev pub then_named : ℕ → Result (List ℕ) InvariantWhy → List (List ℕ) → Result (List ℕ) InvariantWhy
then_named latches (Err e) more = Err e
then_named latches (Ok named) [] = Ok named
then_named latches (Ok named) (word ∷ more) = then_named latches (with_named_latch latches named (latch_named word)) more

-- so many names
abbrev pub counted : ℕ → Result (List ℕ) InvariantWhy → Result (List ℕ) InvariantWhy
counted width (Err e) = Err e
counted width (Ok named) = if length named == width then Ok named else Err why.WrongNames

-- the latches that the line of the names says
abbrev pub named_latches : ℕ → ℕ → Option (List (List ℕ)) → Result (List ℕ) InvariantWhy
named_latches latches width None = Err why.BadNames
named_latches latches width (Some more) = counted width (then_named latches (Ok []) more)

-- ---- cubes

-- a byte of a cube
abbrev pub is_part : ℕ → Bool
is_part b = b == 48 || b == 49 || b == 45

-- what a byte says of a latch, counted from 0, whose variable is one more: that it is 1, that it is 0, or nothing
abbrev pub part_of : ℕ → ℕ → List ℕ
part_of k b = if b == 45 then [] else (if b == 49 then (2 * suc k) ∷ [] else (2 * suc k + 1) ∷ [])

-- the literals of a cube, over the latches that are named at its places
abbrev pub cube_of : List ℕ → List ℕ → List ℕ
cube_of [] bytes = []
cube_of (k ∷ named) [] = []
cube_of (k ∷ named) (b ∷ bytes) = part_of k b ++ cube_of named bytes

-- a word is `1`
abbrev pub is_word_one : Option (List ℕ) → Bool
is_word_one None = false
is_word_one (Some word) = bytes_eq word (codes "1")

-- the bytes of a cube, before a blank and `1`
abbrev pub parts_of : List (List ℕ) → Option (List ℕ)
parts_of [] = None
parts_of (parts ∷ more) = if is_word_one (sole more) then Some parts else None

-- a cube of these bytes, or what is wrong with them
abbrev pub plain_cube : List ℕ → ℕ → Option (List ℕ) → Result (List ℕ) InvariantWhy
plain_cube named width None = Err why.BadCube
plain_cube named width (Some parts) =
    if not (list_all is_part parts) then Err why.BadCube
    else (if length parts == width then Ok (cube_of named parts) else Err why.WrongLength)

-- a cube that asks for a 1
abbrev pub asking : Result (List ℕ) InvariantWhy → Result (List ℕ) InvariantWhy
asking (Err e) = Err e
asking (Ok cube) = if asks_one cube then Ok cube else Err why.HoldsAtStart

abbrev pub cube_or_why : List ℕ → ℕ → Option (List ℕ) → Result (List ℕ) InvariantWhy
cube_or_why named width parts = asking (plain_cube named width parts)

-- ---- lines

-- what the lines so far say: what is expected next, the counts of latches and of the cubes that are left, the latches that are named, and the cubes
pub record CubesReading : Type 0 where
  pub expected : Expected
  pub width : ℕ
  pub left : ℕ
  pub named : List ℕ
  pub cubes : List (List ℕ)

-- before the first line
abbrev pub at_start : CubesReading
at_start = record { expected = expect.Inputs; width = 0; left = 0; named = []; cubes = [] }

abbrev pub with_width : CubesReading → Option ℕ → Result CubesReading InvariantWhy
with_width r None = Err why.BadInputs
with_width r (Some n) = Ok (record r { expected = expect.Outputs; width = n })

abbrev pub with_outputs : CubesReading → Option (List ℕ) → Result CubesReading InvariantWhy
with_outputs r word = if is_word_one word then Ok (record r { expected = expect.Count }) else Err why.BadOutputs

abbrev pub with_count : CubesReading → Option ℕ → Result CubesReading InvariantWhy
with_count r None = Err why.BadCount
with_count r (Some n) = Ok (record r { expected = expect.Names; left = n })

abbrev pub with_names : CubesReading → Result (List ℕ) InvariantWhy → Result CubesReading InvariantWhy
with_names r (Err e) = Err e
with_names r (Ok named) = Ok (record r { expected = expect.Output; named = named })

abbrev pub with_output_name : CubesReading → Option (List ℕ) → Result CubesReading InvariantWhy
with_output_name r None = Err why.BadOutput
with_output_name r (Some word) = Ok (record r { expected = expect.Cubes })

abbrev pub with_cube : CubesReading → Result (List ℕ) InvariantWhy → Result CubesReading InvariantWhy
with_cube r (Err e) = Err e
with_cube r (Ok cube) = Ok (record r { left = pred r.left; cubes = r.cubes ++ cube ∷ [] })

-- a cube while some are left, and then the end
abbrev pub with_cube_or_end : CubesReading → List ℕ → Result CubesReading InvariantWhy
with_cube_or_end r line =
    if bytes_eq line (codes ".e")
    then (if r.left == 0 then Ok (record r { expected = expect.Nothing }) else Err why.WrongCubes)
    else (if r.left == 0 then Err why.WrongCubes else with_cube r (cube_or_why r.named r.width (parts_of (line_words line))))

-- what a line says, by what is expected
abbrev pub with_line : Expected → ℕ → CubesReading → List ℕ → Result CubesReading InvariantWhy
with_line expect.Inputs latches r line = with_width r (decimal_of (value_behind (codes ".i") line))
with_line expect.Outputs latches r line = with_outputs r (value_behind (codes ".o") line)
with_line expect.Count latches r line = with_count r (decimal_of (value_behind (codes ".p") line))
with_line expect.Names latches r line = with_names r (named_latches latches r.width (behind_key (codes ".ilb") (line_words line)))
with_line expect.Output latches r line = with_output_name r (value_behind (codes ".ob") line)
with_line expect.Cubes latches r line = with_cube_or_end r line
with_line expect.Nothing latches r line = Err why.BehindEnd

-- a line that is passed over
abbrev pub is_skipped : List ℕ → Bool
is_skipped [] = true
is_skipped (b ∷ bs) = b == 35

abbrev pub admit_cube_line : ℕ → CubesReading → List ℕ → Result CubesReading InvariantWhy
admit_cube_line latches r line = if is_skipped line then Ok r else with_line r.expected latches r line

-- ---- texts

-- whether the end was told
abbrev pub is_ended : Expected → Bool
is_ended expect.Inputs = false
is_ended expect.Outputs = false
is_ended expect.Count = false
is_ended expect.Names = false
is_ended expect.Output = false
is_ended expect.Cubes = false
is_ended expect.Nothing = true

-- the cubes, where the text ends in the line of this number
abbrev pub ended : ℕ → Result CubesReading InvariantWhy → Result (List (List ℕ)) InvariantFault
ended number (Err e) = Err (record { line = number; why = e })
ended number (Ok r) = if is_ended r.expected then Ok r.cubes else Err (record { line = number; why = why.CutOff })

-- what lines give, and what the text has behind them, after a line of this number and what it said
abbrev pub read_cube_lines : ℕ → ℕ → Result CubesReading InvariantWhy → List (List ℕ) → List ℕ → Result (List (List ℕ)) InvariantFault
read_cube_lines latches number (Err e) lines last = Err (record { line = number; why = e })
read_cube_lines latches number (Ok r) [] last = ended (line_after number) (admit_cube_line latches r last)
read_cube_lines latches number (Ok r) (line ∷ more) last = read_cube_lines latches (line_after number) (admit_cube_line latches r line) more last

-- what a text reads as, over a circuit of so many latches
abbrev pub read_cubes : ℕ → List ℕ → Result (List (List ℕ)) InvariantFault
read_cubes latches text = read_cube_lines latches 0 (Ok at_start) (whole_lines text) (unfinished text)

-- what bytes read as, where they are known
abbrev pub ReadsCubes : ℕ → Option (List ℕ) → Result (List (List ℕ)) InvariantFault → Type 0
ReadsCubes latches None answer = Unit {0}
ReadsCubes latches (Some text) answer = read_cubes latches text ≡ answer
