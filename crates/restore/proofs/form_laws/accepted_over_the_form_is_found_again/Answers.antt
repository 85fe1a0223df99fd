use Rattle.restore.proofs.FormWitnessLemmas.{found_again}
use Rattle.restore.proofs.form_laws.accepted_over_the_form_is_found_again.Goals as goal

pub returns : goal.returns
returns c circuit choice d text m form accepted = found_again circuit choice d text m c.bit_texts_read.ensures.said c.exactly_one_trace.ensures.exists form accepted
