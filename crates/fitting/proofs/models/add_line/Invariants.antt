use Rattle.wide.specs.Lines.{constant_item}
use Rattle.fitting.proofs.models.add_line.Given as goal

abbrev pub ghost-add_item : goal.ghost-add_item
ghost-add_item g a = g.wide

abbrev pub ghost-add_constant : goal.ghost-add_constant
ghost-add_constant g a = record { wide = g.wide; symbol = a.constant.now.symbol; body = (constant_item a.constant.now).body }
