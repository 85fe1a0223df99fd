use Rattle.spread.proofs.SpreaderLemmas.{takes_none, takes_refused, takes_admitted}
use Rattle.spread.proofs.spreader.Spreader.take_line.Goals as goal

pub returns-then-self : goal.returns-then-self
returns-then-self g c = rw (← c.self.view_is) (takes_none g.K.Sink.written g.K.Sink.failures c.args.sink.now c.args.pen.now _ c.args.line.now c.requires c.if-self.true)

pub returns-then-admitted_lines-before : goal.returns-then-admitted_lines-before
returns-then-admitted_lines-before g c =
    rw (← c.self.view_is)
    (takes_refused g.K.Sink.written g.K.Sink.failures c.args.sink.now c.args.pen.now _ c.args.line.now c.requires c.give_in_part.new.judge c.give_in_part.ensures c.admitted_lines-before.result c.admitted_lines.result c.if-self.false c.admitted_lines-before.ensures c.admitted_lines.ensures c.if-admitted_lines-before.true)

pub returns : goal.returns
returns g c =
    rw (← c.self.view_is, c.part_behind-self-inside.ensures)
    (takes_admitted g.K.Sink.written g.K.Sink.failures c.args.sink.now c.args.pen.now _ c.args.line.now c.requires c.give_in_part.new.judge c.give_in_part.ensures c.admitted_lines-before.result c.admitted_lines.result c.if-self.false c.admitted_lines-before.ensures c.admitted_lines.ensures c.if-admitted_lines-before.false c.saturating_add-self-inside.result c.saturating_add-self-inside.ensures)
