-- Which bytes write steps with hints in the binary form of LRAT: a number has as many bytes as it takes, a step is a letter, its numbers and the byte 0 behind
-- each list.
use Rattle.std.specs.Prelude.{◌≡◌, ℕ, ◌<◌, ◌≤◌, false, List, [], ◌∷◌, ◌++◌}
use Rattle.std.specs.List.{list_any}
use Rattle.drup.specs.BinaryProofs.{coded_number}
use Rattle.drup.specs.Hints.{HintedStep, addition, deletion}
use Rattle.drup.specs.ProofJudges.{ends_number}

-- bytes write a number: the top bit is set on each but the last, which is not 0
pub record WritesNumber (n : ℕ) (bytes : List ℕ) : Type 0 where
  pub front : List ℕ
  pub last : ℕ
  pub is : bytes ≡ front ++ last ∷ []
  pub high : list_any ends_number front ≡ false
  pub low : last < 128
  pub some : 1 ≤ last
  pub value : coded_number bytes ≡ n

-- bytes write numbers, one behind the other
abbrev pub WritesNumbers : List ℕ → List ℕ → Type 0
WritesNumbers [] bytes = bytes ≡ []
WritesNumbers (n ∷ ns) bytes = (front : List ℕ) × ((rest : List ℕ) × (WritesNumber n front × (WritesNumbers ns rest × (bytes ≡ front ++ rest))))

-- bytes write a step
abbrev pub WritesStep : HintedStep → List ℕ → Type 0
WritesStep (addition id clause hints) bytes =
    (i : List ℕ) × ((c : List ℕ) × ((h : List ℕ) × (WritesNumber id i × (WritesNumbers clause c × (WritesNumbers hints h × (bytes ≡ 97 ∷ (i ++ (c ++ (0 ∷ (h ++ 0 ∷ []))))))))))
WritesStep (deletion id) bytes = (i : List ℕ) × (WritesNumber id i × (bytes ≡ 100 ∷ (i ++ 0 ∷ [])))

-- bytes write steps, one behind the other
abbrev pub WritesSteps : List HintedStep → List ℕ → Type 0
WritesSteps [] bytes = bytes ≡ []
WritesSteps (step ∷ steps) bytes = (front : List ℕ) × ((rest : List ℕ) × (WritesStep step front × (WritesSteps steps rest × (bytes ≡ front ++ rest))))
