use Rattle.std.proofs.Common.{[], ◌∷◌}
use Rattle.cells.proofs.LineLemmas.{node_stays, extends_after}
use Rattle.cells.proofs.SoundLemmas.{sound_ite}
use Rattle.cells.proofs.NodeLemmas.{gives_ite}
use Rattle.cells.proofs.maker.ListMaker.ite.Goals as goal

pub add-requires-clause-sound : goal.add-requires-clause-sound
add-requires-clause-sound c = sound_ite c.sort.new.self c.in_ok-sort.sort c.args.condition c.args.first c.args.second c.args.width c.in_ok-sort.ensures.sort (node_stays c.args.self.now c.sort.new.self [] c.args.condition 1 c.in_ok-sort.ensures.extends c.requires.condition) (node_stays c.args.self.now c.sort.new.self [] c.args.first c.args.width c.in_ok-sort.ensures.extends c.requires.first) (node_stays c.args.self.now c.sort.new.self [] c.args.second c.args.width c.in_ok-sort.ensures.extends c.requires.second)

pub returns-clause-node : goal.returns-clause-node
returns-clause-node c = gives_ite c.sort.new.self c.add.new.self c.in_ok-sort.sort c.args.condition c.args.first c.args.second c.args.width c.add.result c.in_ok-sort.ensures.sort (node_stays c.args.self.now c.sort.new.self [] c.args.condition 1 c.in_ok-sort.ensures.extends c.requires.condition) (node_stays c.args.self.now c.sort.new.self [] c.args.first c.args.width c.in_ok-sort.ensures.extends c.requires.first) (node_stays c.args.self.now c.sort.new.self [] c.args.second c.args.width c.in_ok-sort.ensures.extends c.requires.second) c.add.ensures.line

pub returns-clause-extends : goal.returns-clause-extends
returns-clause-extends c = extends_after c.args.self.now c.sort.new.self c.add.new.self (c.args.condition ∷ c.args.first ∷ c.args.second ∷ []) c.in_ok-sort.ensures.extends c.add.ensures.extends
