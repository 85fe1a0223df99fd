use Rattle.btor2.proofs.TraceLemmas.{words_fit_frame, next_state_fits}
use Rattle.btor2.proofs.laws.words_fit.Goals as goal

pub returns-clause-frame : goal.returns-clause-frame
returns-clause-frame c = words_fit_frame

pub returns-clause-next : goal.returns-clause-next
returns-clause-next c = next_state_fits
