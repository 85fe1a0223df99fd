use Rattle.base.proofs.PenLemmas.{writes_then}
use Rattle.spread.proofs.GivingLemmas.{gives_line, gives_none, takes_line}
use Rattle.spread.proofs.giving.give.Goals as goal

pub returns-then-admitted_lines-before : goal.returns-then-admitted_lines-before
returns-then-admitted_lines-before g c =
    gives_line g.K.Sink.written g.K.Sink.failures c.args.sink.now c.args.pen.now c.args.judge.now c.feed-2.new.self c.args.line.now c.admitted_lines-before.result c.admitted_lines.result c.requires c.admitted_lines-before.ensures c.admitted_lines.ensures
    (takes_line c.args.judge.now c.feed.new.self c.feed-2.new.self c.args.line.now c.feed.ensures c.feed-2.ensures) c.if-admitted_lines-before.true (writes_then c.put.ensures c.put-then-admitted_lines-before.ensures)

pub returns-else-admitted_lines-before : goal.returns-else-admitted_lines-before
returns-else-admitted_lines-before g c =
    gives_none g.K.Sink.written g.K.Sink.failures c.args.sink.now c.args.pen.now c.args.judge.now c.feed-2.new.self c.args.line.now c.admitted_lines-before.result c.admitted_lines.result c.requires c.admitted_lines-before.ensures c.admitted_lines.ensures
    (takes_line c.args.judge.now c.feed.new.self c.feed-2.new.self c.args.line.now c.feed.ensures c.feed-2.ensures) c.if-admitted_lines-before.false
