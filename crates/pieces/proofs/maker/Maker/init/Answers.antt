use Rattle.std.proofs.Common.{None}
use Rattle.btor2.specs.declared.item.Body.TheVariants as body
use Rattle.btor2.specs.Items.{constant_of}
use Rattle.btor2.proofs.AppendLemmas.{some_of}
use Rattle.pieces.proofs.NodeLemmas.{node_kept, state_kept, constant_kept, init_none, sound_init, added_sorted}
use Rattle.pieces.proofs.maker.Maker.init.Goals as goal

pub tell-requires : goal.tell-requires
tell-requires c =
    let w = some_of (constant_of c.args.self.now c.args.value.id) c.requires.constant in
    let e = c.in_ok-sort.ensures.extends in
    record { sound = sound_init c.sort.new.self c.in_ok-sort.sort w.0 c.args.state c.args.value c.requires.same (state_kept c.args.self.now c.sort.new.self c.args.state.id e c.requires.is_state) (constant_kept c.args.self.now c.sort.new.self c.args.value.id w.0 c.in_ok-sort.ensures.extends w.1) (init_none c.args.self.now c.sort.new.self c.args.state.id e c.requires.first) c.in_ok-sort.ensures.sort (node_kept c.args.self.now c.sort.new.self c.args.state e c.requires.state) (node_kept c.args.self.now c.sort.new.self c.args.value e c.requires.value) }

pub returns-clause-line : goal.returns-clause-line
returns-clause-line c = added_sorted c.args.self.now c.sort.new.self c.tell.new.self c.in_ok-id.id c.args.state.width c.in_ok-sort.sort None (λ s. body.Init s c.args.state.id c.args.value.id) c.in_ok-sort.ensures.extends c.in_ok-sort.ensures.sort c.in_ok-id.ensures.line.0
