-- What is told of a witness that is judged, and of the bad property that a word asks for (this project's).
use Rattle.std.specs.Prelude.{ℕ, Bool, true, false, List, ◌++◌, Option, None, codes, decimal}
use Rattle.witness.specs.declared.judgement.Judgement.{Judgement}
use Rattle.subcommands.specs.declared.answers.Answer.{Answer}
use Rattle.subcommands.specs.declared.answers.Answer.TheVariants as answer
use Rattle.verbs.specs.declared.outcomes.Outcome.{Outcome}
use Rattle.verbs.specs.declared.outcomes.Outcome.TheVariants as outcome_is
use Rattle.subcommands.specs.Done.{IsSo, WritesJudged, WritesJudgedOver, judgement_line}
use Rattle.subcommands.specs.Fitted.{WritesJudgedFitted}
use Rattle.subcommands.specs.Objects.{Names, circuit_names, line_names, outcome_object}
use Rattle.subcommands.specs.Subjects.{bad_line_said, bad_name_said, line_judged, name_said, said_by_name, where_named}
use Rattle.std.specs.Io.KnownBytes.{Appends}
use Rattle.verbs.specs.Judging.{IsJudgedFittedFor, IsJudgedFor, IsJudgedOverFor}
use Rattle.verbs.specs.Subjects.{given_told, model_told}
use Rattle.verbs.specs.declared.judging.JudgedOverCircuit.{JudgedOverCircuit}
use Rattle.verbs.specs.declared.judging_whole.JudgedFitted.{JudgedFitted}
use Rattle.verbs.specs.declared.judging.JudgedOverModel.{JudgedOverModel}

-- ---- what is told

-- the line of it
abbrev pub outcome_line : Outcome → List ℕ
outcome_line (outcome_is.Judged j) = judgement_line j
outcome_line (outcome_is.Unclaimed k) = codes "not claimed: b" ++ (decimal k ++ codes "\n")

-- its line, or an object of JSON
abbrev pub outcome_written : Bool → Names → List (Option ℕ) → Outcome → List ℕ
outcome_written false all firsts o = outcome_line o
outcome_written true all firsts o = outcome_object all firsts o

-- what is said by name of it: of an accepted witness that does not claim what is asked for, which one that is
abbrev pub outcome_said : (Judgement → List ℕ) → (ℕ → List ℕ) → List (Option ℕ) → Outcome → List ℕ
outcome_said said bad firsts (outcome_is.Judged j) = said_by_name said bad firsts j
outcome_said said bad firsts (outcome_is.Unclaimed k) = bad k

-- a witness is accepted and claims what is asked for where an answer is that all is done, and else it is not or does not
abbrev pub IsSoOf : Answer → Outcome → Type 0
IsSoOf a (outcome_is.Judged j) = IsSo a j
IsSoOf answer.Done (outcome_is.Unclaimed k) = ⊥
IsSoOf answer.NotAccepted (outcome_is.Unclaimed k) = Unit {0}

-- ---- what is done

-- A witness over a model is judged, of which a word may ask for a bad property; what was written tells it, in a line or as an object; what was told says so by name, where names are asked for; and it is answered whether the witness is accepted and claims what is asked for.
pub record IsJudgedWith (named as_json : Bool) (word : Option (List ℕ)) (model witness before now told told' : Option (List ℕ)) (a : Answer) : Type 0 where
  pub answer : JudgedOverModel
  pub is_judged : IsJudgedFor word model witness answer
  pub written : Appends before now (outcome_written as_json (line_names (model_told answer.model)) answer.firsts answer.outcome)
  pub subject : Appends told told' (where_named named (outcome_said (line_judged (model_told answer.model)) (bad_line_said (model_told answer.model)) answer.firsts answer.outcome))
  pub so : IsSoOf a answer.outcome

-- The same over a model of the whole language.
pub record IsJudgedFittedWith (named as_json : Bool) (word : Option (List ℕ)) (model witness before now told told' : Option (List ℕ)) (a : Answer) : Type 0 where
  pub answer : JudgedFitted
  pub is_judged : IsJudgedFittedFor word model witness answer
  pub written : Appends before now (outcome_written as_json (line_names (given_told answer.model)) answer.firsts answer.outcome)
  pub subject : Appends told told' (where_named named (outcome_said (line_judged (given_told answer.model)) (bad_line_said (given_told answer.model)) answer.firsts answer.outcome))
  pub so : IsSoOf a answer.outcome

-- The same over a circuit.
pub record IsJudgedOverWith (named as_json : Bool) (word : Option (List ℕ)) (circuit witness before now told told' : Option (List ℕ)) (a : Answer) : Type 0 where
  pub answer : JudgedOverCircuit
  pub is_judged : IsJudgedOverFor word circuit witness answer
  pub written : Appends before now (outcome_written as_json (circuit_names answer.circuit) answer.firsts answer.outcome)
  pub subject : Appends told told' (where_named named (outcome_said (name_said answer.circuit) (bad_name_said answer.circuit) answer.firsts answer.outcome))
  pub so : IsSoOf a answer.outcome

-- without names, words and objects there is the line of the judgement alone, and else what is asked for
abbrev pub AsTold : Bool → Bool → Option (List ℕ) → Type 0 → Type 0 → Type 0
AsTold false false None Line Asked = Line
AsTold named as_json word Line Asked = Asked

abbrev pub ChecksModel : Bool → Bool → Option (List ℕ) → Option (List ℕ) → Option (List ℕ) → Option (List ℕ) → Option (List ℕ) → Option (List ℕ) → Option (List ℕ) → Answer → Type 0
ChecksModel named as_json word model witness before now told told' a = AsTold named as_json word (WritesJudged model witness before now a) (IsJudgedWith named as_json word model witness before now told told' a)

abbrev pub ChecksFitted : Bool → Bool → Option (List ℕ) → Option (List ℕ) → Option (List ℕ) → Option (List ℕ) → Option (List ℕ) → Option (List ℕ) → Option (List ℕ) → Answer → Type 0
ChecksFitted named as_json word model witness before now told told' a = AsTold named as_json word (WritesJudgedFitted model witness before now a) (IsJudgedFittedWith named as_json word model witness before now told told' a)

abbrev pub ChecksCircuit : Bool → Bool → Option (List ℕ) → Option (List ℕ) → Option (List ℕ) → Option (List ℕ) → Option (List ℕ) → Option (List ℕ) → Option (List ℕ) → Answer → Type 0
ChecksCircuit named as_json word circuit witness before now told told' a = AsTold named as_json word (WritesJudgedOver circuit witness before now a) (IsJudgedOverWith named as_json word circuit witness before now told told' a)
