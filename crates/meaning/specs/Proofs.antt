-- Beginnings of texts of proofs, in the text form (this project's).
use Rattle.std.specs.Prelude.{◌≡◌, ℕ, suc, ◌+◌, ◌<◌, ◌≤◌, List, [], ◌∷◌, ◌++◌, length, None}
use Rattle.base.specs.Lines.{text_of_lines, whole_lines, all_lines}
use Rattle.drup.specs.Proofs.{most_proof_lines, read_text_proof}

-- some bytes behind a text make it one of steps without a fault
pub record BeginsProof (variables : ℕ) (text : List ℕ) : Type 0 where
  pub more : List ℕ
  pub whole : (read_text_proof variables (text ++ more)).fault ≡ None

-- a line, by its number, is the first with which a text begins none without a fault: with it the text reads the same, whatever follows, and the lines before it begin one, where one more may follow
pub record IsFirstFaultyLine (variables : ℕ) (text : List ℕ) (number : ℕ) : Type 0 where
  pub before : List (List ℕ)
  pub line : List ℕ
  pub behind : List (List ℕ)
  pub lines : all_lines text ≡ before ++ line ∷ behind
  pub is : suc (length before) ≡ number
  pub begins : length before < most_proof_lines → BeginsProof variables (text_of_lines before)
  pub none : ¬ BeginsProof variables (text_of_lines (before ++ line ∷ []))
  pub same : (more : List ℕ) → read_text_proof variables (text_of_lines (before ++ line ∷ []) ++ more) ≡ read_text_proof variables text

-- a text ends within a step, in the line with a number: it begins one without a fault, where two lines more may follow
pub record EndsWithinStep (variables : ℕ) (text : List ℕ) (number : ℕ) : Type 0 where
  pub is : suc (length (whole_lines text)) ≡ number
  pub begins : length (whole_lines text) + 2 ≤ most_proof_lines → BeginsProof variables text
