use Rattle.std.proofs.Common.{inr, arith}
use Rattle.std.proofs.lemmas.Result.{err_from_is_err_and}
use Rattle.btor2text.specs.Tokens.{tokens}
use Rattle.btor2text.proofs.OperandLemmas.{operand_read, operand_fails, operands_read}
use Rattle.btor2text.proofs.places.operands_at.Goals as goal

pub returns-in_err-id : goal.returns-in_err-id
returns-in_err-id c =
    let is = err_from_is_err_and c.from_residual.result c.from_residual.ensures.1 in
    rw (is.1, is.2) (inr (operand_fails c.args.count c.loop.counter c.loop.ids.items (tokens c.loop.rest.now) _ c.loop.invariant c.in_err-id.field-0.0 (omega arith) c.in_err-id.ensures))

pub loop-preserved : goal.loop-preserved
loop-preserved c =
    rw c.in-Ok.ensures.items (operand_read c.args.count c.loop.counter c.loop.ids.items (tokens c.loop.rest.now) _ c.loop.invariant c.in_ok-id.id (tokens c.in_ok-id.after.now) (omega arith) c.in_ok-id.ensures)

pub returns : goal.returns
returns c = operands_read c.args.count c.loop.counter c.loop.ids.items (tokens c.loop.rest.now) _ c.loop.invariant (omega arith)
