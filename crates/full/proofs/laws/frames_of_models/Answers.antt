use Rattle.full.proofs.ExistLemmas.{full_frame_exists}
use Rattle.full.proofs.FitLemmas.{words_fit}
use Rattle.full.proofs.FullFrames.{frame_by_leaves}
use Rattle.full.proofs.laws.frames_of_models.Goals as goal

pub returns-clause-exists : goal.returns-clause-exists
returns-clause-exists c = full_frame_exists

pub returns-clause-fit : goal.returns-clause-fit
returns-clause-fit c = words_fit

pub returns-clause-same : goal.returns-clause-same
returns-clause-same c = frame_by_leaves
