use Rattle.std.proofs.Common.{rules, ◌≡◌, Err}
use Rattle.writeout.proofs.leaves.put_leaf.Goals as goal

pub returns-in_err-symbol-in-Input-clause-short : goal.returns-in_err-symbol-in-Input-clause-short
returns-in_err-symbol-in-Input-clause-short c =
    let same : c.from_residual.result ≡ Err c.in_err-symbol-in-Input.field-0.0 = search rules in
    rw same (c.in_err-symbol-in-Input.ensures.short c.args.maker.now)

pub returns-in_err-symbol-in-State-clause-short : goal.returns-in_err-symbol-in-State-clause-short
returns-in_err-symbol-in-State-clause-short c =
    let same : c.from_residual-in_err-symbol-in-State.result ≡ Err c.in_err-symbol-in-State.field-0.0 = search rules in
    rw same (c.in_err-symbol-in-State.ensures.short c.args.maker.now)
