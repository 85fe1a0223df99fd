use Rattle.std.proofs.Common.{rules, ap, arith}
use Rattle.std.proofs.lemmas.Grind.{common_steps}
use Rattle.std.proofs.lemmas.Slice.{overwrites}
use Rattle.base.specs.Held.{Held}
use Rattle.base.proofs.HeldLemmas.{keeps_more}
use Rattle.base.proofs.line_reader.LineReader.fill.Goals as goal

pub returns-in-Ok-clause-bytes : goal.returns-in-Ok-clause-bytes
returns-in-Ok-clause-bytes g c =
    keeps_more _ _ c.self.inside.buffer.items _ c.args.self.now.rest c.self.inside.filled c.self.inside.next c.in-Ok.count
    (ap (λ (h : Held). h.rest) c.self.view_is) (search rules) (search rules) (search (rules, overwrites)) (grind (arith, common_steps))
