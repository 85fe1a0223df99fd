use Rattle.std.proofs.Common.{◌+◌, ◌<◌, Err, ap, arith, refl, ◌∙◌}
use Rattle.aiger.specs.Limits.{greatest_count}
use Rattle.blast.proofs.LowerAssembly.{leaves_given}
use Rattle.blast.proofs.lowering.lower_accepted.Goals as goal

pub overflow_cast-inputs : goal.overflow_cast-inputs
overflow_cast-inputs g c = omega (arith, c.given_width-inputs.ensures.value, leaves_given c.args.model.now c.requires.accepted)

pub overflow_cast-latches : goal.overflow_cast-latches
overflow_cast-latches g c = omega (arith, c.carried_width-latches.ensures.value, leaves_given c.args.model.now c.requires.accepted)

pub unreachable-requires : goal.unreachable-requires
unreachable-requires g c =
    let too_many : greatest_count < c.given_width-inputs.result + c.carried_width-latches.result = c.in-Err-TooBig.ensures.too_big.0 (ap Err c.in-Err-TooBig.field-0-is) in
    omega (arith, too_many, c.given_width-inputs.ensures.value, c.carried_width-latches.ensures.value, leaves_given c.args.model.now c.requires.accepted)

pub lower_over-requires-clause-leaves : goal.lower_over-requires-clause-leaves
lower_over-requires-clause-leaves g c = c.in-Ok.ensures.ok ∙ rw (c.given_width-inputs.ensures.value, c.carried_width-latches.ensures.value) refl
