use Rattle.std.proofs.Common.{refl}
use Rattle.std.specs.Fmt.{digits}
use Rattle.aigertext.specs.Binary.{circuit_text}
use Rattle.aigertext.proofs.laws.worked_texts.Goals as goal

pub returns-clause-toggler : goal.returns-clause-toggler
unfolding digits circuit_text
returns-clause-toggler c = refl

pub returns-clause-free_state : goal.returns-clause-free_state
unfolding digits circuit_text
returns-clause-free_state c = refl

pub returns-clause-one_gate : goal.returns-clause-one_gate
unfolding digits circuit_text
returns-clause-one_gate c = refl

pub returns-clause-all_kinds : goal.returns-clause-all_kinds
unfolding digits circuit_text
returns-clause-all_kinds c = refl
