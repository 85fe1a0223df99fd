-- What a judge of steps stands for: the steps that it took, whatever follows them.
use Rattle.std.specs.Prelude.{◌≡◌, ℕ, Bool, false, List, ◌∷◌, ◌++◌, Option, Some, None}
use Rattle.drup.specs.declared.judgement.Judgement.{Judgement}
use Rattle.drup.specs.declared.judgement.Judgement.TheVariants as judgement
use Rattle.drup.specs.Formula.{Formula}
use Rattle.drup.specs.Propagation.{no_literal, IsClosure, MeetsConflict}
use Rattle.drup.specs.Proofs.{addition, Ended, ended, ProofFault}
use Rattle.drup.specs.Judgements.{JudgesSteps, JudgesReading}
use Rattle.drup.specs.Propagator.{State, in_list}

-- the clauses that stand with what followed, what was found, behind which nothing is judged, and whether memory was wanting
pub record StepJudge : Type 0 where
  pub propagator : State
  pub found : Option Judgement
  pub failed : Bool

-- how the steps that follow are judged, and the fault behind them
abbrev pub Continues : State → Option Judgement → Option ProofFault → List Ended → Judgement → Type 0
Continues state (Some found) fault rest j = j ≡ found
Continues state None fault rest j = JudgesSteps fault rest state.clauses (in_list state.followed) j

-- where memory was not wanting, a judge stands for steps over a formula: however it judges what follows, so are these with what follows judged
abbrev pub StandsForSteps : Formula → List Ended → StepJudge → Type 0
StandsForSteps f steps judge =
    judge.failed ≡ false → (fault : Option ProofFault) (rest : List Ended) (j : Judgement) → Continues judge.propagator judge.found fault rest j
    → JudgesReading f (record { steps = steps ++ rest; fault = fault }) j

-- where memory was not wanting, a judge has judged steps over a formula, with a fault of the text behind them
abbrev pub HasJudged : Formula → List Ended → ProofFault → StepJudge → Type 0
HasJudged f steps fault judge =
    judge.failed ≡ false → (found : Judgement) × ((judge.found ≡ Some found) × JudgesReading f (record { steps = steps; fault = Some fault }) found)

-- a step that adds a clause leads from one state to another, or something is found with it
abbrev pub LeadsOver : State → List ℕ → ℕ → State → Option Judgement → Type 0
LeadsOver old clause line new found =
    (fault : Option ProofFault) (rest : List Ended) (j : Judgement) → Continues new found fault rest j
    → JudgesSteps fault (ended line (addition clause) ∷ rest) old.clauses (in_list old.followed) j

-- before any step: a conflict was met, or the formula's clauses stand, without one, with what follows from them
abbrev pub BeginsAt : Formula → State → Option Judgement → Type 0
BeginsAt f state (Some found) = (found ≡ judgement.Derived 0) × MeetsConflict f.clauses no_literal
BeginsAt f state None = (state.clauses ≡ f.clauses) × IsClosure f.clauses no_literal (in_list state.followed) × (¬ MeetsConflict f.clauses no_literal)

-- where memory was not wanting, a judge has a formula's clauses and took no step
abbrev pub BeginsSteps : Formula → StepJudge → Type 0
BeginsSteps f judge = judge.failed ≡ false → BeginsAt f judge.propagator judge.found
