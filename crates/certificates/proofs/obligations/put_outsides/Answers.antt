use Rattle.std.proofs.Common.{◌∙◌, arith}
use Rattle.certificates.proofs.PutLemmas.{outsides_front, outsides_less}
use Rattle.certificates.proofs.obligations.put_outsides.Goals as goal

pub put-requires : goal.put-requires
put-requires c =
    outsides_front _ _ _ c.args.circuit.now c.loop-place.place c.args.invariant.now.cubes c.cube.result.now c.deref.result.now (omega (arith, c.loop-place-test.true, c.cube_count-place-end.ensures.count)) c.cube.ensures.cube
    (c.deref.ensures.value ∙ c.in_ok-write_outside.ensures) c.loop-place.invariant

pub loop-place-preserved : goal.loop-place-preserved
loop-place-preserved c =
    outsides_less _ _ _ _ c.args.circuit.now c.loop-place.place c.args.invariant.now.cubes c.cube.result.now c.deref.result.now (omega (arith, c.loop-place-test.true, c.cube_count-place-end.ensures.count)) c.cube.ensures.cube
    (c.deref.ensures.value ∙ c.in_ok-write_outside.ensures) c.loop-place.invariant c.in_ok-put.ensures
