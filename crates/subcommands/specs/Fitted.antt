-- What the commands on witnesses of fitted models have done.
use Rattle.std.specs.Prelude.{ℕ, Bool, List, Option}
use Rattle.std.specs.Io.KnownBytes.{Appends}
use Rattle.subcommands.specs.declared.answers.Answer.{Answer}
use Rattle.subcommands.specs.Done.{Judged, judgement_line}
use Rattle.verbs.specs.Whole.{IsJudgedFitted, IsSpread, IsUnfitted}

-- What is written is the line of the judgement of a witness over a model of the whole language.
abbrev pub WritesJudgedFitted : Option (List ℕ) → Option (List ℕ) → Option (List ℕ) → Option (List ℕ) → Answer → Type 0
WritesJudgedFitted model witness before now a = Judged (λ j. IsJudgedFitted model witness j × Appends before now (judgement_line j)) a

-- A witness of a model with words of any width was written that says what one of the fitted model says, and what was told is the line of its judgement.
abbrev pub Unfits : Bool → Option (List ℕ) → Option (List ℕ) → Option (List ℕ) → Option (List ℕ) → Option (List ℕ) → Option (List ℕ) → Answer → Type 0
Unfits named model witness before now told told' a = Judged (λ j. IsUnfitted named model witness before now j × Appends told told' (judgement_line j)) a

-- The same the other way round.
abbrev pub Spreads : Option (List ℕ) → Option (List ℕ) → Option (List ℕ) → Option (List ℕ) → Option (List ℕ) → Option (List ℕ) → Answer → Type 0
Spreads model witness before now told told' a = Judged (λ j. IsSpread model witness before now j × Appends told told' (judgement_line j)) a
