use Rattle.witness_circuits.proofs.BesideLemmas.{beside_made}
use Rattle.witness_circuits.specs.Parts.{mapping_in}
use Rattle.witness_circuits.proofs.copies.first_frames.Goals as goal

pub returns-clause-ok : goal.returns-clause-ok
returns-clause-ok g c =
    beside_made c.args.circuit.now c.args.witness.now (mapping_in c.args.shared.now) c.args.inputs.now c.args.latches.now c.args.own_inputs.now c.args.own_latches.now _ _ _ _ _
    c.in_ok-table.ensures.ok c.in_ok-own.ensures.ok
