use Rattle.std.proofs.Common.{[], ◌∷◌}
use Rattle.cells.proofs.LineLemmas.{node_stays, extends_after}
use Rattle.cells.proofs.SoundLemmas.{sound_and}
use Rattle.cells.proofs.NodeLemmas.{gives_and}
use Rattle.cells.proofs.maker.ListMaker.and.Goals as goal

pub add-requires-clause-sound : goal.add-requires-clause-sound
add-requires-clause-sound c = sound_and c.sort.new.self c.in_ok-sort.sort c.args.a c.args.b c.args.width c.in_ok-sort.ensures.sort (node_stays c.args.self.now c.sort.new.self [] c.args.a c.args.width c.in_ok-sort.ensures.extends c.requires.a) (node_stays c.args.self.now c.sort.new.self [] c.args.b c.args.width c.in_ok-sort.ensures.extends c.requires.b)

pub returns-clause-node : goal.returns-clause-node
returns-clause-node c = gives_and c.sort.new.self c.add.new.self c.in_ok-sort.sort c.args.a c.args.b c.args.width c.add.result c.in_ok-sort.ensures.sort (node_stays c.args.self.now c.sort.new.self [] c.args.a c.args.width c.in_ok-sort.ensures.extends c.requires.a) (node_stays c.args.self.now c.sort.new.self [] c.args.b c.args.width c.in_ok-sort.ensures.extends c.requires.b) c.add.ensures.line

pub returns-clause-extends : goal.returns-clause-extends
returns-clause-extends c = extends_after c.args.self.now c.sort.new.self c.add.new.self (c.args.a ∷ c.args.b ∷ []) c.in_ok-sort.ensures.extends c.add.ensures.extends
