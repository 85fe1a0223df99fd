use Rattle.aigertext.proofs.InOrderLemmas.{spelled_valid}
use Rattle.aigertext.proofs.reading.finishing.finish.Goals as goal

pub set_latches_and_properties-requires : goal.set_latches_and_properties-requires
set_latches_and_properties-requires c =
    spelled_valid c.args.front.form c.args.front.counts c.args.front.latches.items c.args.front.properties c.requires.front.0 c.requires.front.1 c.args.circuit.now c.requires.bare c.requires.all c.variables-ordered.ensures.valid
