use Rattle.std.proofs.Common.{ap, length}
use Rattle.witness.proofs.BitReadLemmas.{no_claim_is_refused}
use Rattle.witness.proofs.bit_laws.no_claim_closes_no_frame.Goals as goal

pub returns : goal.returns
returns c =
    record {
      lines = λ circuit text h. ap (λ g. g.admitted) (no_claim_is_refused circuit text h);
      frames = λ circuit text h. ap (λ g. length g.read.frames) (no_claim_is_refused circuit text h);
    }
