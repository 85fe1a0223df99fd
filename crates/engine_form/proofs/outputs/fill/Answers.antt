use Rattle.engine_form.proofs.MoveLemmas.{all_moved}
use Rattle.engine_form.proofs.outputs.fill.Goals as goal

pub returns : goal.returns
returns c = all_moved c.args.circuit.now c.move_names.new.made c.variables.ensures.valid c.variables-2.ensures.valid c.in_ok-move_names.ensures.rest c.in_ok-move_names.ensures.names
