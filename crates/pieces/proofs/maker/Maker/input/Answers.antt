use Rattle.std.proofs.Common.{refl}
use Rattle.btor2.specs.declared.item.Body.TheVariants as body
use Rattle.pieces.proofs.NodeLemmas.{sound_input, added_sorted, leaf_node}
use Rattle.pieces.proofs.maker.Maker.input.Goals as goal

pub tell-requires : goal.tell-requires
tell-requires c = record { sound = sound_input c.sort.new.self c.in_ok-sort.sort c.args.width c.in_ok-sort.ensures.sort }

pub returns-clause-node : goal.returns-clause-node
returns-clause-node c = (leaf_node c.sort.new.self c.tell.new.self c.in_ok-id.id c.args.width c.in_ok-sort.sort c.args.symbol (body.Input c.in_ok-sort.sort) refl c.in_ok-sort.ensures.sort c.in_ok-id.ensures.line.1 c.in_ok-id.ensures.line.0, refl)

pub returns-clause-line : goal.returns-clause-line
returns-clause-line c = added_sorted c.args.self.now c.sort.new.self c.tell.new.self c.in_ok-id.id c.args.width c.in_ok-sort.sort c.args.symbol (λ s. body.Input s) c.in_ok-sort.ensures.extends c.in_ok-sort.ensures.sort c.in_ok-id.ensures.line.0
