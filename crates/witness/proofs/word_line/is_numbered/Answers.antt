use Rattle.std.proofs.Common.{sym, ◌∙◌}
use Rattle.witness.proofs.WordLineLemmas.{numbered_some, numbered_none}
use Rattle.witness.proofs.word_line.is_numbered.Goals as goal

pub returns-in-Some : goal.returns-in-Some
returns-in-Some c small = numbered_some c.args.line.now c.first_of.result c.args.byte c.args.number c.in-Some.found small c.first_of.ensures c.if-first_of-byte.false (sym c.in-Some.is ∙ c.number_behind.ensures)

pub returns-in-None : goal.returns-in-None
returns-in-None c small = numbered_none c.args.line.now c.args.byte c.args.number small (sym c.in-None.is ∙ c.number_behind.ensures)
