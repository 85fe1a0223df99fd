-- What a judge of witnesses of a circuit holds, and which texts it stands for.
use Rattle.std.specs.Prelude.{◌≡◌, ℕ, ◌+◌, ◌<◌, ◌^◌, max, ◌||◌, Bool, true, false, List, [], ◌∷◌, ◌++◌, Option, Some, None, Result, Ok, Err, codes, map, length}
use Rattle.std.specs.Str.{bytes_eq}
use Rattle.base.specs.Lines.{whole_lines, unfinished}
use Rattle.aiger.specs.Circuit.{Circuit}
use Rattle.witness.specs.declared.why.Why.{Why}
use Rattle.witness.specs.declared.judgement.Judgement.{Judgement}
use Rattle.witness.specs.declared.bit_reader.BitPlace.{BitPlace as CodePlace}
use Rattle.witness.specs.declared.bit_reader.BitPlace.TheVariants as code
use Rattle.witness.specs.declared.bit_reader.BitGiven.{BitGiven}
use Rattle.witness.specs.declared.bit_reader.BitGiven.TheVariants as given
use Rattle.witness.specs.declared.bit_reader.BitReader.{BitReader}
use Rattle.witness.specs.declared.bit_lines.BitLines.{BitLines}
use Rattle.witness.specs.declared.bit_play.BitPlay.{BitPlay}
use Rattle.witness.specs.Judgements.{unplayed}
use Rattle.witness.specs.Readings.{lines_read}
use Rattle.witness.specs.Stands.{Judge, Judging, IsOfLines}
use Rattle.witness.specs.BitAdmits.{BitPlace, AtHeader, AtClaim, AtInitial, AtFirst, AtLater, AtDone, BitRead, bit_admit, bits_at, bit_reader, read_bit_text}
use Rattle.witness.specs.BitPlays.{play_start, PlaysBits}
use Rattle.witness.specs.BitJudgements.{makes_no_bit_claim, BitJudges}
use Rattle.witness.specs.Admits.{is_one_bit}
use Rattle.witness.specs.Reached.{bits_said_in}
use Rattle.witness.specs.CutLines.{CutLine, cut_of}

-- ---- lines

-- which line comes next, as the code has it
abbrev pub bit_place_of : CodePlace → BitPlace
bit_place_of code.Header = AtHeader
bit_place_of code.Claim = AtClaim
bit_place_of code.Initial = AtInitial
bit_place_of code.First = AtFirst
bit_place_of code.Later = AtLater
bit_place_of code.Done = AtDone

-- what is kept of lines is what these say over a circuit
pub record ReadsBits (c : Circuit) (q : BitReader) (r : BitRead) : Type 0 where
  pub circuit : q.circuit.now ≡ c
  pub place : bit_place_of q.place ≡ r.place
  pub claim : q.claim ≡ r.claim

-- the next line is the first
abbrev pub is_header : BitPlace → Bool
is_header AtHeader = true
is_header _ = false

-- the next line may be that of a frame
abbrev pub is_frame : BitPlace → Bool
is_frame AtFirst = true
is_frame AtLater = true
is_frame _ = false

-- room for the bytes of a line that is admitted, or else for 21, and for one more
abbrev pub line_room : Circuit → ℕ
line_room c = max (max (length c.latches) c.inputs) 21 + 1

-- of the line that has not ended nothing is kept
abbrev pub bit_judging : Circuit → Judging BitRead BitReader (Unit {0})
bit_judging c =
    record {
      reader = bit_reader c;
      awaits_status = λ r. is_header r.place;
      says_none = λ line. bytes_eq line (codes "0") || bytes_eq line (codes "2");
      makes_no_claim = makes_no_bit_claim;
      Counts = ReadsBits c;
      Reads = λ q r line. Unit {0};
      Keeps = λ kept line. Unit {0};
    }

abbrev pub lines_of : BitLines → Judge BitReader (Unit {0})
lines_of b = record { reader = b.reader; line = tt; admitted = b.admitted; refused = b.refused; no_claim = b.no_claim }

-- they are these whole lines
abbrev pub IsOfBitLines : Circuit → BitLines → List (List ℕ) → Type 0
IsOfBitLines c b lines = IsOfLines (bit_judging c) (lines_of b) lines []

-- they stand for a text of whole lines
abbrev pub StandsForBitLines : Circuit → BitLines → List ℕ → Type 0
StandsForBitLines c b text = IsOfBitLines c b (whole_lines text) × (unfinished text ≡ [])

-- what whole lines say before the faulty one
abbrev pub read_of : Circuit → List (List ℕ) → BitRead
read_of c lines = (lines_read (bit_reader c) lines).read

-- what is told of a text where that needs no run: its judgement, or else that it makes a claim and reads as a witness
abbrev pub TellsUnplayed : Circuit → List ℕ → Option Judgement → Type 0
TellsUnplayed c text (Some j) = BitJudges c text j × (unplayed j ≡ Some j)
TellsUnplayed c text None = (makes_no_bit_claim (whole_lines text) ≡ false) × (read_bit_text c text ≡ Ok (bits_said_in c text))

-- ---- frames

-- the play at each place
abbrev pub PlaysAt : Circuit → BitRead → BitPlay → BitPlace → Type 0
PlaysAt c r p AtHeader = (p ≡ play_start c) × (r.frames ≡ [])
PlaysAt c r p AtClaim = (p ≡ play_start c) × (r.frames ≡ [])
PlaysAt c r p AtInitial = (p ≡ play_start c) × (r.frames ≡ []) × (r.claim < length c.bads)
PlaysAt c r p _ = PlaysBits c r.claim r.initial r.frames p × (r.claim < length c.bads)

-- what the lines so far give is played
abbrev pub PlaysSaid : Circuit → BitRead → BitPlay → Type 0
PlaysSaid c r p = PlaysAt c r p r.place

-- a line has as many bits as what it gives
abbrev pub HasBits : Circuit → List ℕ → BitGiven → Type 0
HasBits c line given.Nothing = Unit {0}
HasBits c line given.Initial = length line ≡ length c.latches
HasBits c line given.Frame = length line ≡ c.inputs

-- what a line gives that stands behind others
abbrev pub Gives : Circuit → BitRead → BitRead → List ℕ → BitGiven → Type 0
Gives c r next line given.Nothing = (p : BitPlay) → PlaysSaid c r p → PlaysSaid c next p
Gives c r next line given.Initial = (r.place ≡ AtInitial) × (next ≡ record r { place = AtFirst; initial = map is_one_bit line })
Gives c r next line given.Frame = (is_frame r.place ≡ true) × (next ≡ record r { place = AtLater; frames = r.frames ++ map is_one_bit line ∷ [] }) × (length r.frames < 2 ^ 62)

-- what comes of a line behind others, of which as many bytes are there as are enough
abbrev pub GivesBitLine : Circuit → BitRead → List ℕ → List ℕ → BitReader → Result BitGiven Why → Type 0
GivesBitLine c r line whole q (Ok g) = (next : BitRead) × ((bit_admit c r whole ≡ Ok next) × (ReadsBits c q next × (length r.frames < 2 ^ 62 → Gives c r next line g)))
GivesBitLine c r line whole q (Err w) = bit_admit c r whole ≡ Err w

-- what comes of the line of a frame
abbrev pub GivesFrame : Circuit → BitRead → List ℕ → BitReader → Result BitGiven Why → Type 0
GivesFrame c r line q (Ok g) = (g ≡ given.Frame) × ((bits_at c.inputs line ≡ Ok (map is_one_bit line)) × ReadsBits c q (record r { place = AtLater; frames = r.frames ++ map is_one_bit line ∷ [] }))
GivesFrame c r line q (Err w) = bits_at c.inputs line ≡ Err w

-- ---- a judge

-- what it holds, with what is kept of the line that has not ended
pub record BitJudge : Type 0 where
  pub lines : BitLines
  pub play : BitPlay
  pub line : CutLine

-- these are whole lines, and what they give is played
pub record IsPlayed (c : Circuit) (b : BitLines) (p : BitPlay) (all : List (List ℕ)) : Type 0 where
  pub lines : IsOfBitLines c b all
  pub play : PlaysSaid c (read_of c all) p

-- it stands for a text
pub record StandsForBits (c : Circuit) (j : BitJudge) (text : List ℕ) : Type 0 where
  pub played : IsPlayed c j.lines j.play (whole_lines text)
  pub line : j.line ≡ cut_of (line_room c) (unfinished text)
