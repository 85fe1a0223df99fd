-- Each line has a small id, and what it needs is there.
use Rattle.std.proofs.Common.{◌<◌, ◌^◌, arith}
use Rattle.full.specs.Lines.{FullLine}
use Rattle.fullmodel.specs.Lines.{line_of}
use Rattle.writeout.proofs.NeedLemmas.{all_get, line_there, needed_found}
use Rattle.writeout.proofs.needs.needs.Goals as goal

pub line_row-requires-clause-small : goal.line_row-requires-clause-small
line_row-requires-clause-small c =
    let there = line_there c.lines-line-items.result.now c.args.full.now c.loop-line.line-index c.line-item.result c.lines-line-items.ensures.lines (omega arith) c.line-item.is in
    all_get (λ (x : FullLine). x.id < 2 ^ 32) c.args.full.now c.loop-line.line-index (line_of c.line-item.result) c.know.ensures.ids there

pub line_row-requires-clause-found : goal.line_row-requires-clause-found
line_row-requires-clause-found c =
    let there = line_there c.lines-line-items.result.now c.args.full.now c.loop-line.line-index c.line-item.result c.lines-line-items.ensures.lines (omega arith) c.line-item.is in
    needed_found c.args.full.now c.loop-line.line-index (line_of c.line-item.result) c.know.ensures.model there
