use Rattle.std.proofs.Common.{◌∙◌, ◌+◌, sym, arith}
use Rattle.std.proofs.lemmas.List.Sums.{prefix_len_is}
use Rattle.btor2.specs.Symbols.{is_printed}
use Rattle.btor2.proofs.SymbolLemmas.{more_printed}
use Rattle.btor2.proofs.symbol.printed_front.Goals as goal

pub returns-then-count-lt-LANES : goal.returns-then-count-lt-LANES
returns-then-count-lt-LANES c =
    let there = c.loop-at-test.true in
    let short = c.if-count-lt-LANES.true in
    sym (prefix_len_is is_printed c.args.text.now (c.loop-at.at + c.printed_lanes-count.result) 0 (omega (arith, there, short))
    (more_printed c.args.text.now c.loop-at.at c.printed_lanes-count.result c.loop-at.invariant.1 c.printed_lanes-count.ensures.printed) (λ _. c.printed_lanes-count.ensures.stops short))

pub returns-else-is_printed : goal.returns-else-is_printed
returns-else-is_printed c =
    sym (prefix_len_is is_printed c.args.text.now c.loop-at-2.at 0 c.loop-at-2.invariant.0 c.loop-at-2.invariant.1 (λ _. sym c.is_printed.ensures ∙ c.if-is_printed.false))

pub returns-after-loop-at-2 : goal.returns-after-loop-at-2
returns-after-loop-at-2 c = sym (prefix_len_is is_printed c.args.text.now c.loop-at-2.at 0 c.loop-at-2.invariant.0 c.loop-at-2.invariant.1 (λ more. absurd (omega (arith, more, c.loop-at-2-test.false))))
