use Rattle.std.proofs.Common.{sym, ◌∙◌, ap, length, arith}
use Rattle.lift.proofs.PutLemmas.{free_found, none_free}
use Rattle.lift.proofs.pieces.has_free.Goals as goal

pub returns-then-is_free : goal.returns-then-is_free
returns-then-is_free c = free_found c.args.model.now c.loop-k.k 0 (omega (arith, c.loop-k-test.true, ap length c.states-k-end.ensures)) (sym c.is_free.ensures ∙ c.if-is_free.true)

pub returns : goal.returns
returns c = none_free c.args.model.now c.loop-k.k (omega (arith, c.loop-k-test.false, ap length c.states-k-end.ensures)) c.loop-k.invariant
