-- What is read of a proof in the binary form of DRAT, as the description of DRAT-trim has it and CaDiCaL writes it: a step is the byte `a` (97), which adds
-- a clause, or `d` (100), which takes one away, then the clause's literals, each a number, 2v for variable v and 2v + 1 for its negation, and the byte 0. A
-- number is written seven bits a byte, least first, and the top bit is set on each of its bytes but the last.
-- This project's own: a number has no needless byte (128 0 for 0), and what the first fault is.
use Rattle.std.specs.Prelude.{ℕ, suc, ◌+◌, ◌*◌, ◌%◌, Bool, true, false, ◌==◌, nat_lt, if◌then◌else◌, List, [], ◌∷◌, codes}
use Rattle.std.specs.Str.{bytes_eq}
use Rattle.base.specs.Lines.{to_first}
use Rattle.drup.specs.declared.why.Why.TheVariants as why
use Rattle.drup.specs.Proofs.{Token, ends, deletes, literal, faulty, Mark, mark, most_proof_lines, ProofReading, reading_from}

-- ---- numbers

-- the bytes cut behind each that has no top bit: an `a`, a `d`, a 0 and each number are a piece, and the last one may be cut off
abbrev pub number_pieces : List ℕ → List (List ℕ)
number_pieces [] = []
number_pieces (b ∷ bs) = if nat_lt b 128 then (b ∷ []) ∷ number_pieces bs else to_first b (number_pieces bs)

-- the number that bytes write
abbrev pub coded_number : List ℕ → ℕ
coded_number [] = 0
coded_number (b ∷ bs) = b % 128 + 128 * coded_number bs

-- the last of some bytes behind another, or that one where there are none
abbrev pub last_byte : ℕ → List ℕ → ℕ
last_byte b [] = b
last_byte b (c ∷ cs) = last_byte c cs

-- a number as a literal of one of so many variables
abbrev pub literal_numbered : ℕ → ℕ → Token
literal_numbered variables n = if nat_lt n 2 then faulty why.BadWord else (if nat_lt (2 * variables + 1) n then faulty why.BadVariable else literal n)

-- what a piece says where a literal is to stand: it is cut off, or its last byte is needless, or it is a number
abbrev pub number_said : ℕ → List ℕ → Token
number_said variables piece =
    if nat_lt 127 (last_byte 0 piece) then faulty why.CutOff
    else (if last_byte 0 piece == 0 then faulty why.BadWord else literal_numbered variables (coded_number piece))

-- ---- steps

-- what pieces say, from before a step with a number on, or within that step; each mark has the number of its step
abbrev pub step_marks : ℕ → ℕ → Bool → List (List ℕ) → List Mark
step_marks variables n false [] = []
step_marks variables n true [] = mark n (faulty why.CutOff) ∷ []
step_marks variables n false (piece ∷ pieces) =
    if nat_lt most_proof_lines n then mark n (faulty why.TooLong) ∷ []
    else (if bytes_eq piece (codes "a") then step_marks variables n true pieces
    else (if bytes_eq piece (codes "d") then mark n deletes ∷ step_marks variables n true pieces else mark n (faulty why.BadWord) ∷ []))
step_marks variables n true (piece ∷ pieces) =
    if bytes_eq piece (0 ∷ []) then mark n ends ∷ step_marks variables (suc n) false pieces
    else mark n (number_said variables piece) ∷ step_marks variables n true pieces

-- all that bytes say
abbrev pub binary_marks : ℕ → List ℕ → List Mark
binary_marks variables bytes = step_marks variables 1 false (number_pieces bytes)

-- what bytes in this form read as, over a formula of so many variables; a text that ends within a step has a mark that says so
abbrev pub read_binary_proof : ℕ → List ℕ → ProofReading
read_binary_proof variables bytes = reading_from 0 false [] (binary_marks variables bytes)
