-- Beginnings of proofs in the binary form (this project's).
use Rattle.std.specs.Prelude.{◌≡◌, ℕ, suc, ◌<◌, ◌≤◌, List, [], ◌∷◌, ◌++◌, length, All, None, ◌⊎◌}
use Rattle.std.specs.List.{concat}
use Rattle.drup.specs.BinaryProofs.{read_binary_proof}

-- a number up to its end, whatever it stands for: all bytes before the last have the top bit, and the last has not; an `a`, a `d` and a 0 are such, too
pub record IsWholeNumber (bytes : List ℕ) : Type 0 where
  pub front : List ℕ
  pub last : ℕ
  pub tops : All (λ b. 128 ≤ b) front
  pub ends : last < 128
  pub whole : bytes ≡ front ++ last ∷ []

-- some bytes behind others make these a proof without a fault
pub record BeginsBinaryProof (variables : ℕ) (bytes : List ℕ) : Type 0 where
  pub more : List ℕ
  pub whole : (read_binary_proof variables (bytes ++ more)).fault ≡ None

-- a step, by its number, is the first with a fault: whole numbers begin a proof without a fault, and with the next number, or with its first byte, they begin none, and read the same, whatever follows
pub record IsFirstFaultyStep (variables : ℕ) (bytes : List ℕ) (number : ℕ) : Type 0 where
  pub numbers : List (List ℕ)
  pub whole : All IsWholeNumber numbers
  pub piece : List ℕ
  pub behind : List ℕ
  pub parts : bytes ≡ concat numbers ++ (piece ++ behind)
  pub is : suc (length (read_binary_proof variables bytes).steps) ≡ number
  pub one : IsWholeNumber piece ⊎ (length piece ≡ 1)
  pub begins : BeginsBinaryProof variables (concat numbers)
  pub none : ¬ BeginsBinaryProof variables (concat numbers ++ piece)
  pub same : (more : List ℕ) → read_binary_proof variables ((concat numbers ++ piece) ++ more) ≡ read_binary_proof variables bytes

-- bytes end within a step, by its number: whole numbers begin a proof without a fault, and behind them no number ends
pub record EndsWithinBinaryStep (variables : ℕ) (bytes : List ℕ) (number : ℕ) : Type 0 where
  pub numbers : List (List ℕ)
  pub whole : All IsWholeNumber numbers
  pub part : List ℕ
  pub tops : All (λ b. 128 ≤ b) part
  pub parts : bytes ≡ concat numbers ++ part
  pub is : suc (length (read_binary_proof variables bytes).steps) ≡ number
  pub begins : BeginsBinaryProof variables (concat numbers)
