use Rattle.std.proofs.Common.{◌≡◌, Some, sym, arith}
use Rattle.base.specs.Decimals.{number_of}
use Rattle.verbs.specs.Asked.{is_called}
use Rattle.verbs.proofs.asked.asked_by.Goals as goal

pub returns-in-Some-2-clause-unasked : goal.returns-in-Some-2-clause-unasked
returns-in-Some-2-clause-unasked c =
    let is : number_of c.args.word.now ≡ Some c.in-Some.position = sym c.in-Some.ensures in
    rw (is, sym c.bad_count-count.ensures) (c.no_such_bad.ensures (Some c.in-Some.position) (is_called c.args.subject c.args.word.now) (omega (arith, c.if-position-count.false)))
