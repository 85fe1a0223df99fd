-- What a reader of steps with hints stands for: the words that it took, whatever follows them.
use Rattle.std.specs.Prelude.{◌≡◌, ℕ, ◌+◌, ◌*◌, ◌<◌, Bool, true, false, List, [], ◌∷◌, ◌++◌, Option, Some, None, All}
use Rattle.drup.specs.Formula.{Formula}
use Rattle.drup.specs.Proofs.{ProofFault}
use Rattle.drup.specs.Hints.{HintedEnded, HintedReading}
use Rattle.drup.specs.HintedJudges.{HintedJudge, StandsForHinted, HasJudgedHinted, BeginsHinted}
use Rattle.lrat.specs.declared.step_reader.Part.{Part}
use Rattle.lrat.specs.declared.step_reader.Part.TheVariants as part
use Rattle.lrat.specs.declared.step_reader.StepReader.TheInside.{Inside}
use Rattle.lrat.specs.HintedProofs.{Token, Mark, mark, Begun, between, literals, hints, deletions, Taken, taken, behind_steps, reading_from}

-- the judge of the steps that ended, the count of variables, what has come of the step that has begun, whether a fault was met or memory was wanting, behind
-- which nothing is read, and whether memory was wanting
pub record StepReader : Type 0 where
  pub judge : HintedJudge
  pub variables : ℕ
  pub begun : Begun
  pub closed : Bool
  pub failed : Bool

-- what has come of a step, of which these are kept
abbrev pub begun_of : Part → ℕ → List ℕ → List ℕ → Begun
begun_of part.Between id clause before = between
begun_of part.Literals id clause before = literals id clause
begun_of part.Hints id clause before = hints id clause before
begun_of part.Deletions id clause before = deletions

-- what is seen of a reader
abbrev pub reader_of : Inside → StepReader
reader_of r = record { judge = r.judge; variables = r.variables; begun = begun_of r.part r.id r.clause.items r.hints.items; closed = r.closed; failed = r.failed }

-- the literals are those of the judge's variables
pub record IsReader (r : Inside) : Type 0 where
  pub limit : r.judge.limit ≡ 2 * r.variables + 2
  pub few : r.variables < 2147483647
  pub below : All (λ l. l < 2 * r.variables + 2) r.clause.items

-- a judge has judged steps over a formula, and the fault behind them where there is one
abbrev pub HasTaken : Formula → List HintedEnded → Option ProofFault → HintedJudge → Type 0
HasTaken f steps None judge = StandsForHinted f steps judge
HasTaken f steps (Some fault) judge = HasJudgedHinted f steps fault judge

-- no word was faulty: the steps that ended and the one that has begun are those of the words, whatever follows
pub record Open (f : Formula) (r : StepReader) (marks : List Mark) : Type 0 where
  pub steps : List HintedEnded
  pub stands : StandsForHinted f steps r.judge
  pub reads : (last : ℕ) (more : List Mark) → reading_from r.variables last between (marks ++ more) ≡ behind_steps steps (reading_from r.variables last r.begun more)

-- the steps before a fault, and the fault, are those of the words, whatever follows
pub record Closed (f : Formula) (r : StepReader) (marks : List Mark) : Type 0 where
  pub steps : List HintedEnded
  pub fault : ProofFault
  pub judged : HasJudgedHinted f steps fault r.judge
  pub reads : (last : ℕ) (more : List Mark) → reading_from r.variables last between (marks ++ more) ≡ record { steps = steps; fault = Some fault }

abbrev pub StandsAtStep : Formula → StepReader → List Mark → Bool → Type 0
StandsAtStep f r marks true = Closed f r marks
StandsAtStep f r marks false = Open f r marks

-- where memory was not wanting, a reader stands for words over a formula
abbrev pub StandsForWords : Formula → StepReader → List Mark → Type 0
StandsForWords f r marks = r.failed ≡ false → StandsAtStep f r marks r.closed

-- a reader reads the literals of a step
abbrev pub is_literals : Begun → Bool
is_literals between = false
is_literals (literals id clause) = true
is_literals (hints id clause before) = false
is_literals deletions = false

pub record ReadsLiterals (r : StepReader) : Type 0 where
  pub going : r.closed ≡ false
  pub begun : is_literals r.begun ≡ true

-- a reader reads the hints of a step
abbrev pub is_hints : Begun → Bool
is_hints between = false
is_hints (literals id clause) = false
is_hints (hints id clause before) = true
is_hints deletions = false

pub record ReadsHints (r : StepReader) : Type 0 where
  pub going : r.closed ≡ false
  pub begun : is_hints r.begun ≡ true

-- a reader becomes another by a word in a line that does this
abbrev pub Takes : StepReader → ℕ → Taken → StepReader → Type 0
Takes old line does new =
    (f : Formula) (marks : List Mark) (token : Token) → taken old.variables old.begun token ≡ does → StandsForWords f old marks
    → StandsForWords f new (marks ++ mark line token ∷ [])

-- where memory was not wanting, a reader has judged the steps of a reading, and its fault where there is one
abbrev pub HasRead : Formula → StepReader → HintedReading → Type 0
HasRead f r reading =
    r.failed ≡ false → (steps : List HintedEnded) × ((fault : Option ProofFault) × (HasTaken f steps fault r.judge × (reading ≡ record { steps = steps; fault = fault })))

-- where memory was not wanting, a reader has a formula's clauses and took no word
pub record BeginsReader (f : Formula) (r : StepReader) : Type 0 where
  pub begins : BeginsHinted f r.judge
  pub begun : r.begun ≡ between
  pub closed : r.closed ≡ false
