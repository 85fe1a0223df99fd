use Rattle.std.proofs.Common.{arith, sym, ap, ◌∙◌}
use Rattle.fullmodel.specs.Lines.{line_of}
use Rattle.rejoin.proofs.ShapeItemLemmas.{items_from, none_from}
use Rattle.fullunfit.specs.Titles.{all_named}
use Rattle.fullunfit.proofs.NamingLemmas.{all_lines}
use Rattle.fullunfit.proofs.naming.names_of.Goals as goal

pub loop-line-init : goal.loop-line-init
loop-line-init c = ap (all_named _) c.lines-lines.ensures.lines ∙ rw (c.new.ensures.items, c.new-2.ensures.items) (all_lines c.args.model.now)

pub loop-line-preserved : goal.loop-line-preserved
loop-line-preserved c =
    let added = c.in_ok-add_line.ensures in
    rw added (ap (all_named c.loop-line.names) (sym (items_from line_of c.loop-line.line-index c.lines-lines.result.now _ _ c.loop-line-test.true c.line-item.is)) ∙ c.loop-line.invariant)

pub returns : goal.returns
returns c = ap (all_named c.loop-line.names) (sym (none_from line_of c.loop-line.line-index c.lines-lines.result.now (omega (arith, c.loop-line.auto, c.loop-line-test.false)))) ∙ c.loop-line.invariant
