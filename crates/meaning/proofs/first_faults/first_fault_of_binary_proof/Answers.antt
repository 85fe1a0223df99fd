use Rattle.meaning.proofs.BinaryProofLemmas.{ends_within_binary_step}
use Rattle.meaning.proofs.first_faults.first_fault_of_binary_proof.Goals as goal

pub returns-clause-cut_off : goal.returns-clause-cut_off
returns-clause-cut_off c = ends_within_binary_step
