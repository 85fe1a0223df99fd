use Rattle.std.proofs.Common.{sym, ◌∙◌}
use Rattle.base.proofs.NumeralLemmas.{number_there, no_number}
use Rattle.base.proofs.numeral.Numeral.number.Goals as goal

pub returns-then-is_numeral : goal.returns-then-is_numeral
returns-then-is_numeral c bytes h = number_there c.args.self bytes h (sym c.is_numeral.ensures ∙ c.if-is_numeral.true)

pub returns-else-is_numeral : goal.returns-else-is_numeral
returns-else-is_numeral c bytes h = no_number c.args.self bytes h (sym c.is_numeral.ensures ∙ c.if-is_numeral.false)
