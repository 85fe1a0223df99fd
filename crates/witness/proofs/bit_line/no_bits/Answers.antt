use Rattle.std.proofs.Common.{sym, ◌∙◌}
use Rattle.witness.proofs.CutLineLemmas.{no_bits, all_bits}
use Rattle.witness.proofs.bit_line.no_bits.Goals as goal

pub returns-then-are_bits : goal.returns-then-are_bits
returns-then-are_bits c = (c.if-line-count.false, all_bits c.args.count c.args.line.now c.if-line-count.false (sym c.are_bits.ensures ∙ c.if-are_bits.true))

pub returns : goal.returns
returns c = rw c.refusal.ensures (no_bits c.args.count c.args.line.now c.if-line-count.false (sym c.are_bits.ensures ∙ c.if-are_bits.false))
