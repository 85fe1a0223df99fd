-- What is read of a proof with hints in the binary form of LRAT, as CaDiCaL writes it: a step is the byte `a` (97), an id, the literals of a clause, the byte
-- 0, hints and the byte 0, which adds the clause with the id; or it is `d` (100), ids and the byte 0, which takes away the clause of each id, one after the
-- other. A number is written as in the binary form of DRAT, seven bits a byte, least first, with the top bit on each of its bytes but the last. A literal is
-- 2v for variable v and 2v + 1 for its negation, and an id is the number itself, so that no hint has a minus.
-- This project's own: a number has no needless byte, one above 2 ^ 64 - 1 is read as 2 ^ 64 - 1, and what the first fault is.
use Rattle.std.specs.Prelude.{ℕ, ◌-◌, ◌/◌, ◌%◌, ◌^◌, min, ◌==◌, nat_lt, if◌then◌else◌, List, [], ◌∷◌, codes}
use Rattle.std.specs.Str.{bytes_eq}
use Rattle.base.specs.Lines.{line_after}
use Rattle.drup.specs.declared.why.Why.TheVariants as why
use Rattle.drup.specs.Proofs.{most_proof_lines}
use Rattle.drup.specs.BinaryProofs.{number_pieces, coded_number, last_byte}
use Rattle.drup.specs.Hints.{HintedReading}
use Rattle.lrat.specs.HintedProofs.{Token, ends, adds, removes, number, negative, faulty, Mark, mark, between, reading_from}

-- ---- numbers

-- a piece that is to be a number: it is cut off, or its last byte is needless, or it is one
abbrev pub number_in : (ℕ → Token) → List ℕ → Token
number_in said piece =
    if nat_lt 127 (last_byte 0 piece) then faulty why.CutOff
    else (if last_byte 0 piece == 0 then faulty why.BadWord else said (min (coded_number piece) (2 ^ 64 - 1)))

-- a number as a literal: the variable's number, with a minus where it is odd
abbrev pub literal_coded : ℕ → Token
literal_coded n = if n % 2 == 0 then number (n / 2) else negative (n / 2)

-- ---- pieces

-- Where a piece stands: between two steps, behind an `a`, among the literals of a clause, or among ids.
pub data Spot : Type 0 where
  at_step : Spot
  at_id : Spot
  at_literal : Spot
  at_other : Spot

-- a piece between two steps, before one with a number
abbrev pub step_said : ℕ → List ℕ → Token
step_said n piece =
    if nat_lt most_proof_lines n then faulty why.TooLong
    else (if bytes_eq piece (codes "a") then adds
    else (if bytes_eq piece (codes "d") then removes else faulty why.BadWord))

-- what a piece says, in a step with a number
abbrev pub piece_said : ℕ → Spot → List ℕ → Token
piece_said n at_step piece = step_said n piece
piece_said n at_id piece = number_in number piece
piece_said n at_literal piece = if bytes_eq piece (0 ∷ []) then ends else number_in literal_coded piece
piece_said n at_other piece = if bytes_eq piece (0 ∷ []) then ends else number_in number piece

-- where the next piece stands, and in which step
abbrev pub spot_behind : Spot → List ℕ → Spot
spot_behind at_step piece = if bytes_eq piece (codes "a") then at_id else at_other
spot_behind at_id piece = at_literal
spot_behind at_literal piece = if bytes_eq piece (0 ∷ []) then at_other else at_literal
spot_behind at_other piece = if bytes_eq piece (0 ∷ []) then at_step else at_other

abbrev pub step_behind : ℕ → Spot → List ℕ → ℕ
step_behind n at_step piece = n
step_behind n at_id piece = n
step_behind n at_literal piece = n
step_behind n at_other piece = if bytes_eq piece (0 ∷ []) then line_after n else n

-- what is said where the pieces end
abbrev pub end_said : ℕ → Spot → List Mark
end_said n at_step = []
end_said n at_id = mark n (faulty why.CutOff) ∷ []
end_said n at_literal = mark n (faulty why.CutOff) ∷ []
end_said n at_other = mark n (faulty why.CutOff) ∷ []

-- ---- steps

-- what pieces say, in a step with a number; each mark has the number of its step
abbrev pub step_marks : ℕ → Spot → List (List ℕ) → List Mark
step_marks n spot [] = end_said n spot
step_marks n spot (piece ∷ pieces) = mark n (piece_said n spot piece) ∷ step_marks (step_behind n spot piece) (spot_behind spot piece) pieces

-- all that bytes say
abbrev pub binary_marks : List ℕ → List Mark
binary_marks bytes = step_marks 1 at_step (number_pieces bytes)

-- what bytes in this form read as, over a formula of so many variables; a text that ends within a step has a mark that says so
abbrev pub read_binary_lrat : ℕ → List ℕ → HintedReading
read_binary_lrat variables bytes = reading_from variables 0 between (binary_marks bytes)
