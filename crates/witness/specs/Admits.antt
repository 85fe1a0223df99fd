-- Lines of a witness, admitted one by one after the lines before them, and the first why of a line that is not ("Btor2, BtorMC and Boolector 3.0", witness
-- format; the whys and their order are this project's).
use Rattle.std.specs.Prelude.{ℕ, suc, Bool, true, false, ◌&&◌, ◌||◌, ◌==◌, nat_lt, List, [], ◌∷◌, ◌++◌, Option, Some, None, Result, Ok, Err, codes, decimal, map, option_map, option_and_then, length, reverse, slice_index, if◌then◌else◌}
use Rattle.std.specs.List.{list_any, list_all}
use Rattle.std.specs.Option.{option_map_or}
use Rattle.std.specs.Str.{bytes_eq}
use Rattle.base.specs.Lines.{to_first}
use Rattle.base.specs.Word.{word}
use Rattle.base.specs.Decimals.{number_of}
use Rattle.btor2.specs.Symbols.{is_symbol}
use Rattle.witness.specs.declared.why.Why.{Why}
use Rattle.witness.specs.declared.why.Why.TheVariants as why
use Rattle.witness.specs.Texts.{Shape, is_free_index, has_free, Assignment, Parts, Witness, is_comment, are_distinct}
use Rattle.witness.specs.Readings.{Reader, Fault, with_said, text_read}

-- ---- a line's pieces

-- the bytes before the first space, and those behind it where there is one
abbrev pub cut_at_space : List ℕ → List ℕ × Option (List ℕ)
cut_at_space [] = ([], None)
cut_at_space (b ∷ bs) = if b == 32 then ([], Some bs) else (b ∷ (cut_at_space bs).0, (cut_at_space bs).1)

-- what stands between single spaces
abbrev pub between_spaces : List ℕ → List (List ℕ)
between_spaces [] = [] ∷ []
between_spaces (b ∷ bs) = if b == 32 then [] ∷ between_spaces bs else to_first b (between_spaces bs)

-- ---- the claims line

-- a claim of a bad property, or of a justice property
pub record Claim : Type 0 where
  pub justice : Bool
  pub index : ℕ

-- `b<i>` or `j<i>`
abbrev pub claim_of : List ℕ → Option Claim
claim_of [] = None
claim_of (b ∷ bs) =
    if b == 98 then option_map (λ i. record { justice = false; index = i }) (number_of bs)
    else (if b == 106 then option_map (λ i. record { justice = true; index = i }) (number_of bs) else None)

-- the claims of all pieces, where each is one
abbrev pub claims_of : List (List ℕ) → Option (List Claim)
claims_of [] = Some []
claims_of (piece ∷ pieces) = option_and_then (λ c. option_map (λ more. c ∷ more) (claims_of pieces)) (claim_of piece)

abbrev pub judged_claims : ℕ → Option (List Claim) → Result (List ℕ) Why
judged_claims bads None = Err why.BadClaim
judged_claims bads (Some list) =
    if list_any (λ c. c.justice) list then Err why.JusticeClaim
    else (if list_all (λ c. nat_lt c.index bads) list && are_distinct (map (λ c. c.index) list) then Ok (map (λ c. c.index) list) else Err why.BadClaim)

-- the claims of a line: 111 where it is no list of claims, 112 where there is one of a justice property, 111 where one is out of range or twice
unfoldable pub claims_at : ℕ → List ℕ → Result (List ℕ) Why
claims_at bads line = judged_claims bads (claims_of (between_spaces line))

-- ---- an assignment

-- the bit of a byte
abbrev pub is_one_bit : ℕ → Bool
is_one_bit b = b == 49

-- whether a byte is a bit's
abbrev pub is_bit : ℕ → Bool
is_bit b = (b == 48) || (b == 49)

-- whether it is one of a value's, of which bits may be undetermined
abbrev pub is_value_byte : ℕ → Bool
is_value_byte b = (b == 48) || ((b == 49) || (b == 120))

-- the word of binary digits, the highest first: 116 where they are not as many as the width, or are none; 117 where one is `x`
unfoldable pub value_of : ℕ → List ℕ → Result ℕ Why
value_of width bytes =
    if (length bytes == width) && list_all is_value_byte bytes
    then (if list_any (λ b. b == 120) bytes then Err why.Undetermined else Ok (word (reverse (map (λ b. b == 49) bytes))))
    else Err why.BadValue

-- an assignment behind those of its part
abbrev pub with_symbol : List Assignment → ℕ → Option (List ℕ) → Result ℕ Why → Result (List Assignment) Why
with_symbol before i name (Err w) = Err w
with_symbol before i None (Ok x) = Ok (before ++ record { index = i; word = x; symbol = None } ∷ [])
with_symbol before i (Some bytes) (Ok x) =
    if is_symbol bytes then Ok (before ++ record { index = i; word = x; symbol = Some bytes } ∷ []) else Err why.BadSymbol

abbrev pub with_value : List ℕ → List Assignment → ℕ → Option (List ℕ) → Result (List Assignment) Why
with_value widths before i None = Err why.BadValue
with_value widths before i (Some rest) = with_symbol before i (cut_at_space rest).1 (value_of (slice_index widths i) (cut_at_space rest).0)

abbrev pub with_index : List ℕ → List Assignment → Option (List ℕ) → Option ℕ → Result (List Assignment) Why
with_index widths before rest None = Err why.BadIndex
with_index widths before rest (Some i) =
    if nat_lt i (length widths)
    then (if list_any (λ a. a.index == i) before then Err why.IndexTwice else with_value widths before i rest)
    else Err why.BadIndex

-- the assignments of a part with that of a line: 114, 115, 116, 117 and 121 in this order
unfoldable pub assignment_at : List ℕ → List Assignment → List ℕ → Result (List Assignment) Why
assignment_at widths before line = with_index widths before (cut_at_space line).1 (number_of (cut_at_space line).0)

-- which index may stand in a part of states: any in the first frame, and behind frames one that is there and is of a free state
abbrev pub may_name : {A : Type 0} → Shape → List A → Option ℕ → Bool
may_name shape [] index = true
may_name shape (x ∷ xs) index = option_map_or (is_free_index shape) index false

-- the same in a part of states behind these frames: 114 also where the index may not stand there
unfoldable pub state_assignment_at : {A : Type 0} → Shape → List A → List Assignment → List ℕ → Result (List Assignment) Why
state_assignment_at shape closed before line =
    if may_name shape closed (number_of (cut_at_space line).0) then assignment_at shape.states before line else Err why.BadIndex

-- ---- the lines in their order

-- where the next line stands: among comments or the status, the claims, the first line of the first frame, in a frame's part of states, in a frame behind its
-- line `@<k>`, or behind the end
pub data Place : Type 0 where
  AtStatus : Place
  AtClaims : Place
  AtParts : Place
  InStates : Place
  InFrame : Place
  AtEnd : Place

-- what the admitted lines say: the claims, the frames that are closed, of the frame that is open the states' part where that is closed, and the assignments of
-- the part that is open
pub record Read : Type 0 where
  pub place : Place
  pub claims : List ℕ
  pub closed : List Parts
  pub states : Option (List Assignment)
  pub open_part : List Assignment

abbrev pub nothing_read : Read
nothing_read = record { place = AtStatus; claims = []; closed = []; states = None; open_part = [] }

-- the frame is closed, and the next line stands at a place
abbrev pub frame_closed : Place → Read → Read
frame_closed next r = record r { place = next; closed = r.closed ++ record { states = r.states; inputs = r.open_part } ∷ []; states = None; open_part = [] }

-- the lines that begin a frame, and its part of states
abbrev pub opens_frame : ℕ → List ℕ → Bool
opens_frame k line = bytes_eq line (64 ∷ decimal k)

abbrev pub opens_states : ℕ → List ℕ → Bool
opens_states k line = bytes_eq line (35 ∷ decimal k)

-- a line that begins as those do that open or end a part
abbrev pub begins_part : List ℕ → Bool
begins_part [] = false
begins_part (b ∷ bs) = (b == 35) || ((b == 64) || (b == 46))

-- an assignment of the part that is open, where the line does not begin as others do
abbrev pub in_part : Read → List ℕ → Result (List Assignment) Why → Result Read Why
in_part r line assigned = if begins_part line then Err why.FrameOrder else with_said (λ (list : List Assignment). record r { open_part = list }) assigned

-- A whole line after the admitted lines. A part of states behind the first frame is there only where there is a free state.
abbrev pub admit_at : Shape → Read → List ℕ → Place → Result Read Why
admit_at shape r line AtStatus = if is_comment line then Ok r else (if bytes_eq line (codes "sat") then Ok (record r { place = AtClaims }) else Err why.BadHeader)
admit_at shape r line AtClaims = with_said (λ (claims : List ℕ). record r { place = AtParts; claims = claims }) (claims_at shape.bads line)
admit_at shape r line AtParts =
    if opens_states 0 line then Ok (record r { place = InStates })
    else (if opens_frame 0 line then Ok (record r { place = InFrame }) else Err why.FrameOrder)
admit_at shape r line InStates =
    if opens_frame (length r.closed) line then Ok (record r { place = InFrame; states = Some r.open_part; open_part = [] }) else in_part r line (state_assignment_at shape r.closed r.open_part line)
admit_at shape r line InFrame =
    if opens_frame (suc (length r.closed)) line then Ok (frame_closed InFrame r)
    else (if opens_states (suc (length r.closed)) line && has_free shape then Ok (frame_closed InStates r)
    else (if bytes_eq line (codes ".") then Ok (frame_closed AtEnd r) else in_part r line (assignment_at shape.inputs r.open_part line)))
admit_at shape r line AtEnd = Err why.Trailing

unfoldable pub admit : Shape → Read → List ℕ → Result Read Why
admit shape r line = admit_at shape r line r.place

-- ---- a whole text

abbrev pub is_at_end : Place → Bool
is_at_end AtEnd = true
is_at_end _ = false

abbrev pub word_reader : Shape → Reader Read
word_reader shape = record { nothing = nothing_read; admit = admit shape; ended = λ r. is_at_end r.place }

-- what a text reads as, or its fault
abbrev pub read_text : Shape → List ℕ → Result Read Fault
read_text shape text = text_read (word_reader shape) text

-- what the admitted lines of a whole text say
abbrev pub witness_of : Read → Witness
witness_of r = record { claims = r.claims; frames = r.closed }
