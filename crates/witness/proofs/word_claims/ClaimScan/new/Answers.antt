use Rattle.std.proofs.Common.{refl}
use Rattle.witness.proofs.WordClaimLemmas.{claims_nothing}
use Rattle.witness.proofs.word_claims.ClaimScan.new.Goals as goal

pub returns : goal.returns
returns c flags none = claims_nothing _ flags refl refl refl none c.new.ensures
