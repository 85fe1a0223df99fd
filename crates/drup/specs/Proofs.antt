-- What is read of the text of a proof, in the text form of DRAT (N. Wetzler, M. Heule, W. Hunt, "DRAT-trim: Efficient checking and trimming using
-- expressive clausal proofs", SAT 2014): a step is the literals of a clause and `0`, which adds the clause, and with a `d` before it takes the clause away.
-- This project's own: blanks and ends of lines part words and mean nothing else, a line whose first byte is `c` is passed over, numbers have no zeros in
-- front and no plus, and what the first fault is.
use Rattle.std.specs.Prelude.{ℕ, suc, ◌+◌, ◌*◌, ◌^◌, Bool, true, false, not, ◌||◌, ◌==◌, nat_lt, if◌then◌else◌, List, [], ◌∷◌, ◌++◌, length, map, Option, Some, None, codes}
use Rattle.std.specs.Str.{bytes_eq}
use Rattle.base.specs.Decimals.{is_nothing, number_of}
use Rattle.base.specs.Lines.{whole_lines, onto_first, all_lines}
use Rattle.drup.specs.declared.why.Why.{Why}
use Rattle.drup.specs.declared.why.Why.TheVariants as why

-- ---- words

-- a space, a tab, or a carriage return
abbrev pub is_proof_blank : ℕ → Bool
is_proof_blank b = b == 32 || b == 9 || b == 13

-- a word ends where a blank follows, or nothing
abbrev pub ends_word : List ℕ → Bool
ends_word [] = true
ends_word (b ∷ bs) = is_proof_blank b

-- the words of a line: its longest stretches without a blank
abbrev pub proof_words : List ℕ → List (List ℕ)
proof_words [] = []
proof_words (b ∷ bs) =
    if is_proof_blank b then proof_words bs
    else (if ends_word bs then (b ∷ []) ∷ proof_words bs else onto_first b (proof_words bs))

-- What a word says: the end of a step, that the step takes a clause away, a literal, or that it is faulty.
pub data Token : Type 0 where
  ends : Token
  deletes : Token
  literal : ℕ → Token
  faulty : Why → Token

-- a variable's number, of a literal whose sign is 0 or of its negation whose sign is 1
abbrev pub variable_numbered : ℕ → ℕ → Option ℕ → Token
variable_numbered variables sign None = faulty why.BadWord
variable_numbered variables sign (Some n) = if n == 0 then faulty why.BadWord else (if nat_lt variables n then faulty why.BadVariable else literal (2 * n + sign))

-- a literal: a decimal from 1 on, with a minus in front where it is a negation
abbrev pub literal_said : ℕ → List ℕ → Token
literal_said variables [] = faulty why.BadWord
literal_said variables (b ∷ bs) = if b == 45 then variable_numbered variables 1 (number_of bs) else variable_numbered variables 0 (number_of (b ∷ bs))

abbrev pub token_of : ℕ → List ℕ → Token
token_of variables word =
    if bytes_eq word (codes "0") then ends
    else (if bytes_eq word (codes "d") then deletes else literal_said variables word)

-- ---- lines

-- what a word says, and the line in which it stands
pub data Mark : Type 0 where
  mark : ℕ → Token → Mark

abbrev pub is_proof_comment : List ℕ → Bool
is_proof_comment [] = false
is_proof_comment (b ∷ bs) = b == 99

-- the most lines of a proof, and the most steps in the binary form
abbrev pub most_proof_lines : ℕ
most_proof_lines = 2 ^ 62

abbrev pub line_marks : ℕ → ℕ → List ℕ → List Mark
line_marks variables n line =
    if nat_lt most_proof_lines n then mark n (faulty why.TooLong) ∷ []
    else (if is_proof_comment line then [] else map (λ word. mark n (token_of variables word)) (proof_words line))

-- of lines from one with a number on
abbrev pub lines_marks : ℕ → ℕ → List (List ℕ) → List Mark
lines_marks variables n [] = []
lines_marks variables n (line ∷ lines) = line_marks variables n line ++ lines_marks variables (suc n) lines

-- ---- steps

-- A step adds a clause, or takes one away.
pub data Step : Type 0 where
  addition : List ℕ → Step
  deletion : List ℕ → Step

-- a step, and the line of its `0`; in the binary form its number
pub data Ended : Type 0 where
  ended : ℕ → Step → Ended

pub record ProofFault : Type 0 where
  pub line : ℕ
  pub why : Why

-- the steps before the first fault, and that fault, where there is one
pub record ProofReading : Type 0 where
  pub steps : List Ended
  pub fault : Option ProofFault

abbrev pub step_of : Bool → List ℕ → Step
step_of true clause = deletion clause
step_of false clause = addition clause

-- a step has begun with a `d`, or with literals
abbrev pub has_begun : Bool → List ℕ → Bool
has_begun deleting clause = deleting || not (is_nothing clause)

abbrev pub refused : ℕ → Why → ProofReading
refused n w = record { steps = []; fault = Some (record { line = n; why = w }) }

-- what marks read as behind the beginning of a step, in a text that ends in a line
abbrev pub reading_from : ℕ → Bool → List ℕ → List Mark → ProofReading
reading_from last deleting clause [] = if has_begun deleting clause then refused last why.CutOff else record { steps = []; fault = None }
reading_from last deleting clause (mark n ends ∷ marks) =
    let behind : ProofReading = reading_from last false [] marks in
    record behind { steps = ended n (step_of deleting clause) ∷ behind.steps }
reading_from last deleting clause (mark n deletes ∷ marks) = if has_begun deleting clause then refused n why.BadWord else reading_from last true [] marks
reading_from last deleting clause (mark n (literal l) ∷ marks) = reading_from last deleting (clause ++ l ∷ []) marks
reading_from last deleting clause (mark n (faulty w) ∷ marks) = refused n w

-- what a text in this form reads as, over a formula of so many variables
abbrev pub read_text_proof : ℕ → List ℕ → ProofReading
read_text_proof variables text = reading_from (suc (length (whole_lines text))) false [] (lines_marks variables 1 (all_lines text))
