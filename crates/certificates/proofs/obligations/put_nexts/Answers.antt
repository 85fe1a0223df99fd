use Rattle.std.proofs.Common.{◌+◌, All, subst, arith}
use Rattle.drup.specs.Formula.{IsLiteral}
use Rattle.certificates.specs.Obligation.{cube_variable}
use Rattle.certificates.proofs.PutLemmas.{nexts_front, nexts_less}
use Rattle.certificates.proofs.obligations.put_nexts.Goals as goal

pub put_next-requires-clause-inside : goal.put_next-requires-clause-inside
put_next-requires-clause-inside c = subst (λ n. All (IsLiteral n) c.cube.result.now) c.requires.latches c.cube.ensures.literals

pub put_next-requires-clause-literals : goal.put_next-requires-clause-literals
put_next-requires-clause-literals c =
    nexts_front _ _ _ c.args.circuit.now (cube_variable c.args.circuit.now) (c.variables-first.result + 3 + c.loop-place.place) c.loop-place.place c.args.invariant.now.cubes c.cube.result.now
    (omega (arith, c.variables-first.ensures.count)) (omega (arith, c.loop-place-test.true, c.cube_count-place-end.ensures.count)) c.cube.ensures.cube c.loop-place.invariant

pub loop-place-preserved : goal.loop-place-preserved
loop-place-preserved c =
    nexts_less _ _ _ _ c.args.circuit.now (cube_variable c.args.circuit.now) (c.variables-first.result + 3 + c.loop-place.place) c.loop-place.place c.args.invariant.now.cubes c.cube.result.now
    (omega (arith, c.variables-first.ensures.count)) (omega (arith, c.loop-place-test.true, c.cube_count-place-end.ensures.count)) c.cube.ensures.cube c.loop-place.invariant c.in_ok-put_next.ensures
