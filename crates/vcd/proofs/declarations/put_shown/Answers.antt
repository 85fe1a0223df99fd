use Rattle.std.proofs.Common.{arith}
use Rattle.vcd.proofs.NameLemmas.{few_places}
use Rattle.vcd.proofs.declarations.put_shown.Goals as goal

pub overflow_add-result : goal.overflow_add-result
overflow_add-result g c = omega (arith, c.requires.few, few_places c.args.model.now c.args.place c.args.item.now c.requires.well_formed c.requires.at)
