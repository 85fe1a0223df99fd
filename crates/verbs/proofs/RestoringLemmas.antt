-- What is told of a counterexample that is restored.
use Rattle.std.proofs.Common.{◌≡◌, ℕ, true, List, Option, None, Some, IfSome, Result, Ok, Err, IfOk, IfErr, OnOk}
use Rattle.aiger.specs.Circuit.{Circuit}
use Rattle.engine_form.specs.EngineForm.{input_count}
use Rattle.restore.specs.Accepted.{FindsAgain}
use Rattle.restore.specs.Faults.{is_of_text}
use Rattle.restore.specs.Reading.{read_found}
use Rattle.restore.specs.Restored.{restored_text}
use Rattle.restore.specs.declared.fault.RestoreFault.{RestoreFault}
use Rattle.witness.specs.BitJudgements.{BitJudges}
use Rattle.witness.specs.declared.judgement.Judgement.{Judgement}
use Rattle.verbs.specs.Restoring.{IsToldOf}

pub told_so : (r : Result Judgement RestoreFault) (c : Circuit) (claim : ℕ) (found : Option (List ℕ)) → IfErr r (λ e. is_of_text e.why ≡ true)
    → IfOk r (λ j. IfSome found (λ text. BitJudges c (restored_text c claim text) j)) → IfOk r (λ j. IfSome found (λ text. FindsAgain c claim text j))
    → OnOk r (IfSome found (λ text. (read_found (input_count c) text).fault ≡ None)) → IfErr r (λ e. is_of_text e.why ≡ true → IfSome found (λ text. (read_found (input_count c) text).fault ≡ Some e))
    → IfSome found (λ text. IsToldOf c claim text r)
told_so (Ok j) c claim None line judged again right first = tt
told_so (Ok j) c claim (Some text) line judged again right first = record { right = right; judged = judged; again = again }
told_so (Err e) c claim None line judged again right first = tt
told_so (Err e) c claim (Some text) line judged again right first = first line

-- all that it gives was written
pub written_so : (r : Result Judgement RestoreFault) (W : Type 0) → IfErr r (λ e. is_of_text e.why ≡ true) → OnOk r W → IfErr r (λ e. is_of_text e.why ≡ true → W) → W
written_so (Ok j) W line all front = all
written_so (Err e) W line all front = front line
