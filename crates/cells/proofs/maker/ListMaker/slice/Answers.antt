use Rattle.std.proofs.Common.{◌+◌, ◌-◌, [], ◌∷◌, refl}
use Rattle.cells.proofs.LineLemmas.{extends_after}
use Rattle.cells.proofs.SoundLemmas.{sound_slice}
use Rattle.cells.proofs.NodeLemmas.{gives_slice, slice_there, slice_within}
use Rattle.cells.proofs.maker.ListMaker.slice.Goals as goal

pub add-requires-clause-sound : goal.add-requires-clause-sound
add-requires-clause-sound c =
    sound_slice c.sort.new.self c.in_ok-sort.sort c.args.a c.args.upper c.args.lower (c.args.upper - c.args.lower + 1) c.requires.order (slice_within c.args.self.now c.sort.new.self [] c.args.a c.args.upper c.in_ok-sort.ensures.extends c.requires.within)
    (slice_there c.args.self.now c.sort.new.self [] c.args.a c.args.upper c.in_ok-sort.ensures.extends c.requires.within) refl c.in_ok-sort.ensures.sort

pub returns-clause-node : goal.returns-clause-node
returns-clause-node c =
    gives_slice c.sort.new.self c.add.new.self c.in_ok-sort.sort c.args.a c.args.upper c.args.lower (c.args.upper - c.args.lower + 1) c.add.result c.in_ok-sort.ensures.sort (slice_there c.args.self.now c.sort.new.self [] c.args.a c.args.upper c.in_ok-sort.ensures.extends c.requires.within) c.add.ensures.line

pub returns-clause-extends : goal.returns-clause-extends
returns-clause-extends c = extends_after c.args.self.now c.sort.new.self c.add.new.self (c.args.a ∷ []) c.in_ok-sort.ensures.extends c.add.ensures.extends
