use Rattle.std.proofs.Common.{sym, ◌∙◌}
use Rattle.base.proofs.DecimalLemmas.{begun, not_begun}
use Rattle.base.proofs.decimals.decimal.Goals as goal

pub returns-then-begins_decimal : goal.returns-then-begins_decimal
returns-then-begins_decimal c = c.digits_number.ensures ∙ begun c.args.token.now (sym c.begins_decimal.ensures ∙ c.if-begins_decimal.true)

pub returns-else-begins_decimal : goal.returns-else-begins_decimal
returns-else-begins_decimal c = not_begun c.args.token.now (sym c.begins_decimal.ensures ∙ c.if-begins_decimal.false)
