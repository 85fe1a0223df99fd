-- Lines of a witness of a circuit, admitted one by one after the lines before them, and the first why of a line that is not (the AIGER format's witnesses;
-- the whys and their order are this project's).
use Rattle.std.specs.Prelude.{ℕ, Bool, true, false, ◌&&◌, ◌==◌, nat_lt, List, [], ◌∷◌, ◌++◌, Option, Some, None, Result, Ok, Err, codes, map, length, if◌then◌else◌}
use Rattle.std.specs.List.{list_any, list_all}
use Rattle.std.specs.Str.{bytes_eq}
use Rattle.aiger.specs.Circuit.{Circuit}
use Rattle.witness.specs.declared.why.Why.{Why}
use Rattle.witness.specs.declared.why.Why.TheVariants as why
use Rattle.witness.specs.Readings.{Reader, Fault, with_said, reading, text_read}
use Rattle.witness.specs.Admits.{Claim, claim_of, is_value_byte}
use Rattle.witness.specs.BitTexts.{BitWitness}

-- ---- single lines

-- the claim of a line: 111 where it is none, 112 where it is of a justice property, 111 where there is no such bad property
abbrev pub judged_claim : ℕ → Option Claim → Result ℕ Why
judged_claim bads None = Err why.BadClaim
judged_claim bads (Some c) = if c.justice then Err why.JusticeClaim else (if nat_lt c.index bads then Ok c.index else Err why.BadClaim)

abbrev pub claim_at : ℕ → List ℕ → Result ℕ Why
claim_at bads line = judged_claim bads (claim_of line)

-- the bits of a line: 116 where they are not so many, or where a byte is none of `0`, `1` and `x`; 117 where one is `x`
abbrev pub bits_at : ℕ → List ℕ → Result (List Bool) Why
bits_at count line =
    if (length line == count) && list_all is_value_byte line
    then (if list_any (λ b. b == 120) line then Err why.Undetermined else Ok (map (λ b. b == 49) line))
    else Err why.BadValue

-- ---- the lines in their order

-- where the next line stands: it is the status, the claim, the initial bits, the first frame, a later frame or the end, or it is behind the end
pub data BitPlace : Type 0 where
  AtHeader : BitPlace
  AtClaim : BitPlace
  AtInitial : BitPlace
  AtFirst : BitPlace
  AtLater : BitPlace
  AtDone : BitPlace

-- what the admitted lines say
pub record BitRead : Type 0 where
  pub place : BitPlace
  pub claim : ℕ
  pub initial : List Bool
  pub frames : List (List Bool)

abbrev pub no_line_read : BitRead
no_line_read = record { place = AtHeader; claim = 0; initial = []; frames = [] }

abbrev pub after_frame : BitRead → Result (List Bool) Why → Result BitRead Why
after_frame r line = with_said (λ (bits : List Bool). record r { place = AtLater; frames = r.frames ++ bits ∷ [] }) line

-- a whole line after the admitted lines
abbrev pub bit_admit_at : Circuit → BitRead → List ℕ → BitPlace → Result BitRead Why
bit_admit_at c r line AtHeader = if bytes_eq line (codes "1") then Ok (record r { place = AtClaim }) else Err why.BadHeader
bit_admit_at c r line AtClaim = with_said (λ (i : ℕ). record r { place = AtInitial; claim = i }) (claim_at (length c.bads) line)
bit_admit_at c r line AtInitial = with_said (λ (bits : List Bool). record r { place = AtFirst; initial = bits }) (bits_at (length c.latches) line)
bit_admit_at c r line AtFirst = if bytes_eq line (codes ".") then Err why.FrameOrder else after_frame r (bits_at c.inputs line)
bit_admit_at c r line AtLater = if bytes_eq line (codes ".") then Ok (record r { place = AtDone }) else after_frame r (bits_at c.inputs line)
bit_admit_at c r line AtDone = Err why.Trailing

unfoldable pub bit_admit : Circuit → BitRead → List ℕ → Result BitRead Why
bit_admit c r line = bit_admit_at c r line r.place

-- ---- a whole text

abbrev pub is_done : BitPlace → Bool
is_done AtDone = true
is_done _ = false

abbrev pub bit_reader : Circuit → Reader BitRead
bit_reader c = record { nothing = no_line_read; admit = bit_admit c; ended = λ r. is_done r.place }

-- what a text reads as, or its fault
abbrev pub read_bit_text : Circuit → List ℕ → Result BitRead Fault
read_bit_text c text = text_read (bit_reader c) text

-- what the admitted lines of a whole text say
abbrev pub bit_witness_of : BitRead → BitWitness
bit_witness_of r = record { claim = r.claim; initial = r.initial; frames = r.frames }

-- the whole lines before the faulty one, or all lines
abbrev pub admitted_lines : Circuit → List ℕ → ℕ
admitted_lines c text = (reading (bit_reader c) text).admitted

-- the frames that are closed: those whose lines are among them
abbrev pub closed_frames : Circuit → List ℕ → ℕ
closed_frames c text = length (reading (bit_reader c) text).read.frames
