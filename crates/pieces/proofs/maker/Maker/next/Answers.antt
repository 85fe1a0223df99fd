use Rattle.std.proofs.Common.{None}
use Rattle.btor2.specs.declared.item.Body.TheVariants as body
use Rattle.pieces.proofs.NodeLemmas.{node_kept, state_kept, next_none, sound_next, added_sorted}
use Rattle.pieces.proofs.maker.Maker.next.Goals as goal

pub tell-requires : goal.tell-requires
tell-requires c =
    let e = c.in_ok-sort.ensures.extends in
    record { sound = sound_next c.sort.new.self c.in_ok-sort.sort c.args.state c.args.value c.requires.same (state_kept c.args.self.now c.sort.new.self c.args.state.id e c.requires.is_state) (next_none c.args.self.now c.sort.new.self c.args.state.id e c.requires.first) c.in_ok-sort.ensures.sort (node_kept c.args.self.now c.sort.new.self c.args.state e c.requires.state) (node_kept c.args.self.now c.sort.new.self c.args.value e c.requires.value) }

pub returns-clause-line : goal.returns-clause-line
returns-clause-line c = added_sorted c.args.self.now c.sort.new.self c.tell.new.self c.in_ok-id.id c.args.state.width c.in_ok-sort.sort None (λ s. body.Next s c.args.state.id c.args.value.id) c.in_ok-sort.ensures.extends c.in_ok-sort.ensures.sort c.in_ok-id.ensures.line.0
