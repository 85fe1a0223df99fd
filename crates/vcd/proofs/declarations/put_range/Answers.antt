use Rattle.std.proofs.lemmas.Bool.{ne_eqb}
use Rattle.base.proofs.PenLemmas.{writes_then}
use Rattle.vcd.proofs.declarations.put_range.Goals as goal

pub returns-then-width-ne1 : goal.returns-then-width-ne1
returns-then-width-ne1 g c = rw (ne_eqb c.args.width 1 c.if-width-ne1.true) (writes_then c.put.ensures (writes_then c.put_number.ensures c.put-then-width-ne1.ensures))
