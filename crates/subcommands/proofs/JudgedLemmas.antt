-- What a command has done that told how a witness is judged.
use Rattle.std.proofs.Common.{ℕ, Bool, List, Option, Result, Ok, Err, IfOk, OnOk}
use Rattle.std.specs.Io.KnownBytes.{Appends}
use Rattle.witness.specs.declared.judgement.Judgement.{Judgement}
use Rattle.verbs.specs.declared.judging.JudgedOverCircuit.{JudgedOverCircuit}
use Rattle.verbs.specs.declared.judging.JudgedOverModel.{JudgedOverModel}
use Rattle.verbs.specs.declared.judging_whole.JudgedFitted.{JudgedFitted}
use Rattle.verbs.specs.declared.refusals.Refusal.{Refusal}
use Rattle.verbs.specs.Judging.{IsJudgedFor, IsJudgedFittedFor, IsJudgedOverFor}
use Rattle.verbs.specs.Subjects.{given_told, model_told}
use Rattle.subcommands.specs.declared.answers.Answer.{Answer}
use Rattle.subcommands.specs.Asked.{IsJudgedFittedWith, IsJudgedOverWith, IsJudgedWith, IsSoOf, outcome_said, outcome_written}
use Rattle.subcommands.specs.Done.{IsSo, Judged, judgement_line}
use Rattle.subcommands.specs.Objects.{circuit_names, line_names}
use Rattle.subcommands.specs.Subjects.{bad_line_said, bad_name_said, line_judged, name_said, where_named}

-- a judgement whose line was written
pub written : (r : Result Answer Refusal) (Is : Judgement → Type 0) (before now : Option (List ℕ)) (j : Judgement) → Is j → OnOk r (Appends before now (judgement_line j)) → IfOk r (λ a. IsSo a j)
    → IfOk r (Judged (λ verdict. Is verdict × Appends before now (judgement_line verdict)))
written (Ok a) Is before now j is line so = record { verdict = j; is_judged = (is, line); so = so }
written (Err e) Is before now j is line so = tt

pub judged_with : (r : Result Answer Refusal) (named as_json : Bool) (word model witness before now told told' : Option (List ℕ)) (answer : JudgedOverModel) → IsJudgedFor word model witness answer
    → OnOk r (Appends before now (outcome_written as_json (line_names (model_told answer.model)) answer.firsts answer.outcome))
    → OnOk r (Appends told told' (where_named named (outcome_said (line_judged (model_told answer.model)) (bad_line_said (model_told answer.model)) answer.firsts answer.outcome))) → IfOk r (λ a. IsSoOf a answer.outcome)
    → IfOk r (IsJudgedWith named as_json word model witness before now told told')
judged_with (Ok a) named as_json word model witness before now told told' answer is line said so = record { answer = answer; is_judged = is; written = line; subject = said; so = so }
judged_with (Err e) named as_json word model witness before now told told' answer is line said so = tt

pub judged_fitted_with : (r : Result Answer Refusal) (named as_json : Bool) (word model witness before now told told' : Option (List ℕ)) (answer : JudgedFitted) → IsJudgedFittedFor word model witness answer
    → OnOk r (Appends before now (outcome_written as_json (line_names (given_told answer.model)) answer.firsts answer.outcome))
    → OnOk r (Appends told told' (where_named named (outcome_said (line_judged (given_told answer.model)) (bad_line_said (given_told answer.model)) answer.firsts answer.outcome))) → IfOk r (λ a. IsSoOf a answer.outcome)
    → IfOk r (IsJudgedFittedWith named as_json word model witness before now told told')
judged_fitted_with (Ok a) named as_json word model witness before now told told' answer is line said so = record { answer = answer; is_judged = is; written = line; subject = said; so = so }
judged_fitted_with (Err e) named as_json word model witness before now told told' answer is line said so = tt

pub judged_over_with : (r : Result Answer Refusal) (named as_json : Bool) (word circuit witness before now told told' : Option (List ℕ)) (answer : JudgedOverCircuit) → IsJudgedOverFor word circuit witness answer
    → OnOk r (Appends before now (outcome_written as_json (circuit_names answer.circuit) answer.firsts answer.outcome))
    → OnOk r (Appends told told' (where_named named (outcome_said (name_said answer.circuit) (bad_name_said answer.circuit) answer.firsts answer.outcome))) → IfOk r (λ a. IsSoOf a answer.outcome)
    → IfOk r (IsJudgedOverWith named as_json word circuit witness before now told told')
judged_over_with (Ok a) named as_json word circuit witness before now told told' answer is line said so = record { answer = answer; is_judged = is; written = line; subject = said; so = so }
judged_over_with (Err e) named as_json word circuit witness before now told told' answer is line said so = tt
