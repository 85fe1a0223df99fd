use Rattle.meaning.proofs.ProofLineLemmas.{ends_within_step}
use Rattle.meaning.proofs.first_faults.first_fault_of_text_proof.Goals as goal

pub returns-clause-cut_off : goal.returns-clause-cut_off
returns-clause-cut_off c = ends_within_step
