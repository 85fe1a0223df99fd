use Rattle.std.proofs.Common.{◌*◌, ◌^◌, nat_le, nat_lt, sym, ap, ◌∙◌, arith}
use Rattle.std.proofs.lemmas.Bool.{le-leb}
use Rattle.wide.specs.Lines.{number_of_digits}
use Rattle.wide.proofs.NumberLemmas.{and_yes, hex_power, few_hex}
use Rattle.wide.proofs.model.check.hex_digits_fit.Goals as goal

pub returns : goal.returns
returns c =
    let n = c.args.count in
    let v = number_of_digits c.args.number.now in
    c.is_below-2.ensures ∙ ap (nat_lt v) (hex_power n)
    ∙ sym (and_yes (nat_le 1 n) _ (le-leb 1 n (omega (arith, c.if-count-lt1.false))) ∙ and_yes (nat_le (4 * n) 1048579) _ (few_hex n (omega (arith, c.if-count-gt-MOST_HEX_DIGITS.false))) ∙ and_yes (nat_lt v (2 ^ c.args.width)) _ (sym c.if-not-is_below.ensures))
