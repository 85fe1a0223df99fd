use Rattle.std.proofs.Common.{true}
use Rattle.lift.specs.Lifted.{named_text}
use Rattle.lift.proofs.KeepLemmas.{keeps_verdict}
use Rattle.lift.proofs.laws.names_keep_the_verdict.Goals as goal

pub returns : goal.returns
returns c items circuit text j l h =
    keeps_verdict true items circuit text j l h (λ w. c.bit_texts_read.ensures.read circuit text w l.circuit) (λ w. c.texts_read.ensures.read items (named_text items circuit text) w l.well_formed)
    (λ initial inputs. c.exactly_one_trace-2.ensures.exists items initial inputs l.well_formed) (λ initial inputs. c.exactly_one_trace.ensures.exists circuit initial inputs l.circuit)
