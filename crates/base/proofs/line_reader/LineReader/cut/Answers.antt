use Rattle.std.proofs.Common.{rules, ap}
use Rattle.base.specs.Held.{Held}
use Rattle.base.proofs.HeldLemmas.{cut_line}
use Rattle.base.proofs.line_reader.LineReader.cut.Goals as goal

pub returns-in-Some-clause-found : goal.returns-in-Some-clause-found
returns-in-Some-clause-found c = λ _.
    cut_line c.self.inside.buffer.items c.args.self.now.rest c.self.inside.filled c.self.inside.next c.args.seen _ c.in-Some.line.now c.in-Some.field-0-1.now
    (ap (λ (h : Held). h.rest) c.self.view_is) (search rules) c.requires.within c.requires.none (search rules) (search rules) (search rules)
