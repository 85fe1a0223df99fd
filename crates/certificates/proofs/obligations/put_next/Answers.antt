use Rattle.std.proofs.Common.{arith}
use Rattle.certificates.proofs.PutLemmas.{next_front, next_less}
use Rattle.certificates.proofs.obligations.put_next.Goals as goal

pub put-requires : goal.put-requires
put-requires c = next_front _ _ _ c.args.circuit.now c.args.variable c.loop-literal.literal-index c.args.cube.now _ c.next_literal.result (omega (arith, c.loop-literal-test.true)) c.next_literal.ensures c.loop-literal.invariant

pub loop-literal-preserved : goal.loop-literal-preserved
loop-literal-preserved c =
    next_less _ _ _ _ c.args.circuit.now c.args.variable c.loop-literal.literal-index c.args.cube.now _ c.next_literal.result (omega (arith, c.loop-literal-test.true)) c.next_literal.ensures c.loop-literal.invariant c.in_ok-put.ensures
