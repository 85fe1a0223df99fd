-- What a reader of steps stands for: the words that it took, whatever follows them.
use Rattle.std.specs.Prelude.{◌≡◌, ℕ, ◌<◌, Bool, true, false, List, [], ◌++◌, Some, None, All}
use Rattle.drup.specs.declared.step_reader.StepReader.TheInside.{Inside}
use Rattle.drup.specs.Formula.{Formula}
use Rattle.drup.specs.Proofs.{Mark, Ended, ProofFault, ProofReading, reading_from}
use Rattle.drup.specs.StepJudges.{StepJudge, StandsForSteps, HasJudged, BeginsSteps}

-- the judge of the steps that ended, the literals of the step that has begun and whether it takes a clause away, whether a fault was met or memory was
-- wanting, behind which nothing is read, and whether memory was wanting
pub record StepReader : Type 0 where
  pub judge : StepJudge
  pub clause : List ℕ
  pub deleting : Bool
  pub closed : Bool
  pub failed : Bool

-- what is seen of a reader
abbrev pub reader_of : Inside → StepReader
reader_of r = record { judge = r.judge; clause = r.clause.items; deleting = r.deleting; closed = r.closed; failed = r.failed }

-- the literals are below the judge's limit
abbrev pub IsReader : Inside → Type 0
IsReader r = All (λ l. l < r.judge.propagator.limit) r.clause.items

-- steps in front of a reading
abbrev pub behind_steps : List Ended → ProofReading → ProofReading
behind_steps steps reading = record { steps = steps ++ reading.steps; fault = reading.fault }

-- no word was faulty: the steps that ended and the one that has begun are those of the words, whatever follows
pub record Open (f : Formula) (r : StepReader) (marks : List Mark) : Type 0 where
  pub steps : List Ended
  pub stands : StandsForSteps f steps r.judge
  pub reads : (last : ℕ) (more : List Mark) → reading_from last false [] (marks ++ more) ≡ behind_steps steps (reading_from last r.deleting r.clause more)

-- the steps before a fault, and the fault, are those of the words, whatever follows
pub record Closed (f : Formula) (r : StepReader) (marks : List Mark) : Type 0 where
  pub steps : List Ended
  pub fault : ProofFault
  pub judged : HasJudged f steps fault r.judge
  pub reads : (last : ℕ) (more : List Mark) → reading_from last false [] (marks ++ more) ≡ record { steps = steps; fault = Some fault }

abbrev pub StandsAtStep : Formula → StepReader → List Mark → Bool → Type 0
StandsAtStep f r marks true = Closed f r marks
StandsAtStep f r marks false = Open f r marks

-- where memory was not wanting, a reader stands for words over a formula
abbrev pub StandsForWords : Formula → StepReader → List Mark → Type 0
StandsForWords f r marks = r.failed ≡ false → StandsAtStep f r marks r.closed

abbrev pub HasReadAt : Formula → StepReader → ProofReading → Bool → Type 0
HasReadAt f r reading true = (steps : List Ended) × ((fault : ProofFault) × (HasJudged f steps fault r.judge × (reading ≡ record { steps = steps; fault = Some fault })))
HasReadAt f r reading false = (steps : List Ended) × (StandsForSteps f steps r.judge × (reading ≡ record { steps = steps; fault = None }))

-- where memory was not wanting, a reader has judged the steps of a reading, and its fault where there is one
abbrev pub HasRead : Formula → StepReader → ProofReading → Type 0
HasRead f r reading = r.failed ≡ false → HasReadAt f r reading r.closed

-- where memory was not wanting, a reader has a formula's clauses and took no word
pub record BeginsReader (f : Formula) (r : StepReader) : Type 0 where
  pub begins : BeginsSteps f r.judge
  pub clause : r.clause ≡ []
  pub deleting : r.deleting ≡ false
  pub closed : r.closed ≡ false
