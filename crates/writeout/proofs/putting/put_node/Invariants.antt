use Rattle.fullmodel.specs.Lines.{line_of}
use Rattle.writeout.proofs.putting.put_node.Given as goal

abbrev pub ghost-line_node : goal.ghost-line_node
ghost-line_node a = record { line = line_of a.line.now; place = a._place }
