use Rattle.blast.proofs.PropertyLemmas.{Adds-unnamed}
use Rattle.blast.proofs.properties.push_unnamed.Goals as goal

pub returns-in-Ok-clause-ok : goal.returns-in-Ok-clause-ok
returns-in-Ok-clause-ok c = Adds-unnamed c.args.property c.args.circuit.now c.add_literal.new.circuit c.args.lit c.variables.ensures.valid c.in-Ok.ensures.ok
