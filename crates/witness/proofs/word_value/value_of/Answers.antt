use Rattle.std.proofs.Common.{Err, ap, sym, ◌∙◌, arith}
use Rattle.witness.proofs.WordValueLemmas.{other_length, value_known, value_unknown}
use Rattle.witness.proofs.word_value.value_of.Goals as goal

pub returns-then-bytes-bits-clause-is : goal.returns-then-bytes-bits-clause-is
returns-then-bytes-bits-clause-is c = other_length c.args.width c.args.bytes.now (λ e. omega (arith, e, c.bits.ensures.same, c.if-bytes-bits.true))

pub returns-in-Some-clause-is : goal.returns-in-Some-clause-is
returns-in-Some-clause-is c = value_known c.args.width c.in-Some.known c.args.bytes.now (omega (arith, c.bits.ensures.same, c.if-bytes-bits.false)) c.in-Some.ensures

pub returns-in-None-clause-is : goal.returns-in-None-clause-is
returns-in-None-clause-is c = value_unknown c.args.width c.args.bytes.now (omega (arith, c.bits.ensures.same, c.if-bytes-bits.false)) c.in-None.ensures ∙ ap Err (sym c.refusal.ensures)
