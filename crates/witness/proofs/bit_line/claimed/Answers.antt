use Rattle.std.proofs.Common.{None, Some, get_or, refl, sym, ◌∙◌}
use Rattle.witness.proofs.CutLineLemmas.{claimed_at, no_number}
use Rattle.witness.proofs.bit_line.claimed.Goals as goal

pub returns-in-Some : goal.returns-in-Some
returns-in-Some c = c.judged.ensures ∙ sym (claimed_at c.args.bads c.args.line.now (Some c.in-Some.number) c.first_of.result c.first_of.ensures (sym c.number_behind.ensures ∙ c.in-Some.is))

pub returns-in-None : goal.returns-in-None
returns-in-None c = sym (claimed_at c.args.bads c.args.line.now None (get_or c.args.line.now 0 0) refl (sym c.number_behind.ensures ∙ c.in-None.is) ∙ no_number c.args.bads (get_or c.args.line.now 0 0))
