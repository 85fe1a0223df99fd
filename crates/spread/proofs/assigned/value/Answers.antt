use Rattle.std.proofs.Common.{◌≡◌, true, false, Err, ap, sym, ◌∙◌, rules}
use Rattle.std.specs.List.{list_all}
use Rattle.witness.specs.Admits.{is_bit}
use Rattle.witness.proofs.WordValueLemmas.{value_unknown}
use Rattle.spread.proofs.ValueLemmas.{too_long, known_word}
use Rattle.spread.proofs.assigned.value.Goals as goal

pub returns-then-bytes-width : goal.returns-then-bytes-width
returns-then-bytes-width c = too_long c.args.width c.args.bytes.now c.if-bytes-width.true

pub returns-then-are_bits : goal.returns-then-are_bits
returns-then-are_bits c =
    let all : list_all is_bit c.args.bytes.now ≡ true = search rules in
    known_word c.args.width c.args.bytes.now c.if-bytes-width.false all

pub returns-else-are_bits : goal.returns-else-are_bits
returns-else-are_bits c =
    let none : list_all is_bit c.args.bytes.now ≡ false = search rules in
    value_unknown c.args.width c.args.bytes.now c.if-bytes-width.false none ∙ ap (λ w. Err w) (sym c.refusal.ensures)
