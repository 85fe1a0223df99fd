use Rattle.std.proofs.Common.{◌++◌, refl}
use Rattle.certificates.specs.Obligation.{now_clauses, failing_clauses}
use Rattle.certificates.proofs.PutLemmas.{over_front, leaves_all, leaves_less}
use Rattle.certificates.proofs.obligations.put_all.Goals as goal

pub put_now-requires-clause-literals : goal.put_now-requires-clause-literals
put_now-requires-clause-literals c = over_front c.args.formula.now.variables (now_clauses c.args.circuit.now c.args.invariant.now.cubes) (failing_clauses c.args.circuit.now c.args.invariant.now.cubes) c.requires.literals

pub put_failing-requires-clause-literals : goal.put_failing-requires-clause-literals
put_failing-requires-clause-literals c =
    let all = now_clauses c.args.circuit.now c.args.invariant.now.cubes ++ failing_clauses c.args.circuit.now c.args.invariant.now.cubes in
    (leaves_less c.args.formula.now c.args.formula.now c.put_now.new.formula all all (now_clauses c.args.circuit.now c.args.invariant.now.cubes) (failing_clauses c.args.circuit.now c.args.invariant.now.cubes) refl
    (leaves_all c.args.formula.now all c.requires.literals) c.in_ok-put_now.ensures).literals
