use Rattle.std.proofs.Common.{subst}
use Rattle.aiger.specs.Net.{Net}
use Rattle.blast.specs.Reads.{LowersNodes}
use Rattle.blast.proofs.LowerAssembly.{bare_by_net, nodes_by_net}
use Rattle.blast.proofs.lowering.lower_over.Goals as goal

pub completed-requires-clause-bare : goal.completed-requires-clause-bare
completed-requires-clause-bare g c = bare_by_net c.lower_nodes.new.gates c.finish.result c.finish.ensures.circuit

pub completed-requires-clause-nodes : goal.completed-requires-clause-nodes
completed-requires-clause-nodes g c =
    let items = c.args.model.now in
    let table = c.in-Ok.table in
    nodes_by_net items c.lower_nodes.new.gates c.finish.result table c.finish.ensures.circuit
    (subst (λ (n : Net). LowersNodes items n c.lower_nodes.new.gates table) c.requires.leaves c.in-Ok.ensures.ok)
