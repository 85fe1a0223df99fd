use Rattle.std.proofs.Common.{None, refl, sym, arith}
use Rattle.verbs.specs.Asked.{is_called}
use Rattle.verbs.proofs.asked.called.Goals as goal

pub returns-in-None-clause-unasked : goal.returns-in-None-clause-unasked
returns-in-None-clause-unasked c =
    rw (sym c.bad_count-count.ensures)
    (c.no_such_bad.ensures None (is_called c.args.subject c.args.word.now) (λ j few. c.in-None.ensures.nowhere refl j (omega arith) (rw c.bad_count-count.ensures at few)))
