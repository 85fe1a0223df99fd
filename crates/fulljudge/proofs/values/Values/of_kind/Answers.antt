use Rattle.std.proofs.Common.{length, arith, ap, sym, ◌∙◌}
use Rattle.std.proofs.lemmas.List.{length-map}
use Rattle.fullmodel.specs.Lines.{line_of}
use Rattle.fulljudge.proofs.ValuesLemmas.{few_lines}
use Rattle.fulljudge.proofs.values.Values.of_kind.Goals as goal

pub add_line-requires : goal.add_line-requires
add_line-requires c =
    let same = sym (length-map c.lines-line-items.result.now line_of) ∙ ap length c.lines-line-items.ensures.lines in
    omega (arith, few_lines c.args.model.now c.lines-line-items.ensures.accepted, same, c.loop-line-test.true, c.loop-line.invariant.few)
