use Rattle.std.proofs.Common.{[]}
use Rattle.cells.proofs.LineLemmas.{extends_after}
use Rattle.cells.proofs.SoundLemmas.{sound_constant}
use Rattle.cells.proofs.NodeLemmas.{gives_zero}
use Rattle.cells.proofs.maker.ListMaker.zero.Goals as goal

pub add-requires-clause-sound : goal.add-requires-clause-sound
add-requires-clause-sound c = (sound_constant c.sort.new.self c.in_ok-sort.sort c.args.width c.in_ok-sort.ensures.sort).0

pub returns-clause-node : goal.returns-clause-node
returns-clause-node c = gives_zero c.sort.new.self c.add.new.self c.in_ok-sort.sort c.args.width c.add.result c.in_ok-sort.ensures.sort c.add.ensures.line

pub returns-clause-extends : goal.returns-clause-extends
returns-clause-extends c = extends_after c.args.self.now c.sort.new.self c.add.new.self [] c.in_ok-sort.ensures.extends c.add.ensures.extends
