use Rattle.std.proofs.Common.{ℕ, List, ◌++◌, min, decimal}
use Rattle.witness.specs.Texts.{symbol_part}
use Rattle.spread.specs.Passing.{faulty_rest}
use Rattle.spread.proofs.TextLemmas.{rest_is_line}
use Rattle.spread.proofs.GivingLemmas.{gives_anew, decimal_line, line_at_hand, faulty_behind}
use Rattle.spread.proofs.giving.give_faulty.Goals as goal

pub returns : goal.returns
returns g c =
    let rest : List ℕ = symbol_part (faulty_rest (min c.args.width 64) c.args.why) in
    let behind = faulty_behind c.min.result (min c.args.width 64) c.args.why c.clear.new.self c.byte.new.self c.add_faulty_rest.new.line c.min.ensures c.clear.ensures c.byte.ensures c.add_faulty_rest.ensures.rest in
    let at_hand = line_at_hand c.args.first rest c.add_faulty_rest.new.line c.number.new.self behind c.number.ensures.digits in
    gives_anew (c.give_line.ensures (decimal c.args.first ++ rest) (decimal_line c.args.first rest c.ranges.first.fits (rest_is_line (min c.args.width 64) c.args.why)) at_hand)
