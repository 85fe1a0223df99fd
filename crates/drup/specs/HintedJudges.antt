-- What a judge of steps with hints stands for: the steps that it took, whatever follows them.
use Rattle.std.specs.Prelude.{◌≡◌, ℕ, ◌<◌, Bool, true, false, List, ◌∷◌, ◌++◌, length, Option, Some, None}
use Rattle.std.specs.List.{list_any}
use Rattle.base.specs.Decimals.{is_nothing}
use Rattle.drup.specs.declared.hinted_judge.HintedJudge.TheInside.{Inside}
use Rattle.drup.specs.declared.judgement.Judgement.{Judgement}
use Rattle.drup.specs.declared.judgement.Judgement.TheVariants as judgement
use Rattle.drup.specs.Formula.{Formula}
use Rattle.drup.specs.Proofs.{ProofFault}
use Rattle.drup.specs.Named.{Kept, clause_of, AreNamed, IsTight}
use Rattle.drup.specs.Hints.{named_from, judge_named, judge_hinted, HintedEnded}
use Rattle.drup.specs.Marked.{IsEven, set_of}

-- the clauses that stand by their ids, the limit that literals are below, the last id, what was found, behind which nothing is judged, and whether memory
-- was wanting
pub record HintedJudge : Type 0 where
  pub named : Kept
  pub limit : ℕ
  pub last : ℕ
  pub found : Option Judgement
  pub failed : Bool

abbrev pub hinted_of : Inside → HintedJudge
hinted_of j = record { named = j.named; limit = length j.trail.marks; last = j.last; found = j.found; failed = j.failed }

-- literals are below an even limit, none is marked between two steps, no id behind the last has a clause, and where memory was not wanting, clauses that were taken
-- away are not held for long
pub record IsHinted (j : Inside) : Type 0 where
  pub named : AreNamed j.named (length j.trail.marks)
  pub even : IsEven j.trail
  pub none : (l : ℕ) → set_of j.trail l ≡ false
  pub fresh : (id : ℕ) → j.last < id → clause_of j.named id ≡ None
  pub held : j.failed ≡ false → IsTight j.named

-- how the steps that follow are judged, and the fault behind them
abbrev pub continued : HintedJudge → Option Judgement → Option ProofFault → List HintedEnded → Judgement
continued judge (Some found) fault rest = found
continued judge None fault rest = judge_named fault rest (clause_of judge.named) judge.last

-- where memory was not wanting, a judge stands for steps over a formula: as it judges what follows, so are these with what follows judged
abbrev pub StandsForHinted : Formula → List HintedEnded → HintedJudge → Type 0
StandsForHinted f steps judge =
    judge.failed ≡ false → (fault : Option ProofFault) (rest : List HintedEnded)
    → judge_hinted f (record { steps = steps ++ rest; fault = fault }) ≡ continued judge judge.found fault rest

-- a step leads from one judge to another: as this judges what follows, so does that judge it with the step before
abbrev pub LeadsHinted : HintedJudge → HintedEnded → HintedJudge → Type 0
LeadsHinted old step new =
    new.failed ≡ false → (old.failed ≡ false)
    × ((fault : Option ProofFault) (rest : List HintedEnded) → continued old old.found fault (step ∷ rest) ≡ continued new new.found fault rest)

-- where memory was not wanting, a judge has judged steps over a formula, with a fault of the text behind them
abbrev pub HasJudgedHinted : Formula → List HintedEnded → ProofFault → HintedJudge → Type 0
HasJudgedHinted f steps fault judge =
    judge.failed ≡ false → judge.found ≡ Some (judge_hinted f (record { steps = steps; fault = Some fault }))

-- before any step: a clause has no literals, or the formula's clauses stand by their ids
abbrev pub BeginsHintedAt : Formula → HintedJudge → Option Judgement → Type 0
BeginsHintedAt f judge (Some found) = (found ≡ judgement.Derived 0) × (list_any is_nothing f.clauses ≡ true)
BeginsHintedAt f judge None = ((id : ℕ) → clause_of judge.named id ≡ named_from 1 f.clauses id) × (judge.last ≡ length f.clauses) × (list_any is_nothing f.clauses ≡ false)

-- where memory was not wanting, a judge has a formula's clauses and took no step
abbrev pub BeginsHinted : Formula → HintedJudge → Type 0
BeginsHinted f judge = judge.failed ≡ false → BeginsHintedAt f judge judge.found
