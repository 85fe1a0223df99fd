use Rattle.std.proofs.Common.{[], ◌∷◌}
use Rattle.cells.proofs.LineLemmas.{node_stays, extends_after}
use Rattle.cells.proofs.SoundLemmas.{sound_concat}
use Rattle.cells.proofs.NodeLemmas.{gives_concat}
use Rattle.cells.proofs.maker.ListMaker.concat.Goals as goal

pub add-requires-clause-sound : goal.add-requires-clause-sound
add-requires-clause-sound c = sound_concat c.sort.new.self c.in_ok-sort.sort c.args.high c.args.low c.args.high_width c.args.low_width c.in_ok-sort.ensures.sort (node_stays c.args.self.now c.sort.new.self [] c.args.high c.args.high_width c.in_ok-sort.ensures.extends c.requires.high) (node_stays c.args.self.now c.sort.new.self [] c.args.low c.args.low_width c.in_ok-sort.ensures.extends c.requires.low)

pub returns-clause-node : goal.returns-clause-node
returns-clause-node c = gives_concat c.sort.new.self c.add.new.self c.in_ok-sort.sort c.args.high c.args.low c.args.high_width c.args.low_width c.add.result c.in_ok-sort.ensures.sort (node_stays c.args.self.now c.sort.new.self [] c.args.high c.args.high_width c.in_ok-sort.ensures.extends c.requires.high) (node_stays c.args.self.now c.sort.new.self [] c.args.low c.args.low_width c.in_ok-sort.ensures.extends c.requires.low) c.add.ensures.line

pub returns-clause-extends : goal.returns-clause-extends
returns-clause-extends c = extends_after c.args.self.now c.sort.new.self c.add.new.self (c.args.high ∷ c.args.low ∷ []) c.in_ok-sort.ensures.extends c.add.ensures.extends
