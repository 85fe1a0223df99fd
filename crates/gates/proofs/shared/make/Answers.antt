use Rattle.std.proofs.Common.{◌∙◌}
use Rattle.aiger.specs.Circuit.{net}
use Rattle.gates.specs.Chains.{longest}
use Rattle.gates.proofs.ChainLemmas.{AreFound-same, finds-same}
use Rattle.gates.proofs.shared.make.Goals as goal

pub returns-in_err-make_room-clause-found : goal.returns-in_err-make_room-clause-found
returns-in_err-make_room-clause-found c =
    AreFound-same longest (net c.args.circuit.now) _ _ _ _ _ _ c.make_room.ensures.last c.make_room.ensures.before c.make_room.ensures.beyond c.requires.found

pub add_gate-requires-clause-found : goal.add_gate-requires-clause-found
add_gate-requires-clause-found c =
    AreFound-same longest (net c.args.circuit.now) _ _ _ _ _ _ c.make_room.ensures.last c.make_room.ensures.before c.make_room.ensures.beyond c.requires.found

pub add_gate-requires-clause-absent : goal.add_gate-requires-clause-absent
add_gate-requires-clause-absent c =
    finds-same longest c.args.circuit.now.gates _ _ _ _ _ _ c.make_room.ensures.last c.make_room.ensures.before c.make_room.ensures.beyond c.args.pair ∙ c.requires.absent
