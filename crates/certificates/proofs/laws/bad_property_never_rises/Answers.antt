use Rattle.certificates.proofs.TraceLemmas.{safe_frames, cannot_rise}
use Rattle.certificates.proofs.laws.bad_property_never_rises.Goals as goal

pub returns-clause-frames : goal.returns-clause-frames
returns-clause-frames c = safe_frames

pub returns-clause-circuit : goal.returns-clause-circuit
returns-clause-circuit c = cannot_rise
