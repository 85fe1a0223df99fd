use Rattle.std.proofs.Common.{◌≡◌, ◌+◌, ◌-◌, ◌<◌, ◌≤◌, arith, refl}
use Rattle.pieces.proofs.NodeLemmas.{node_kept, sound_slice, made_slice}
use Rattle.pieces.proofs.maker.Maker.slice.Goals as goal

pub put-requires : goal.put-requires
put-requires c =
    let order : c.args.low ≤ c.args.low + c.args.width - 1 = omega (arith, c.requires.some) in
    let within : c.args.low + c.args.width - 1 < c.args.a.width = omega (arith, c.requires.some, c.requires.within) in
    let wide : c.args.width ≡ c.args.low + c.args.width - 1 - c.args.low + 1 = omega (arith, c.requires.some) in
    record { sound = sound_slice c.sort.new.self c.in_ok-sort.sort c.args.low (c.args.low + c.args.width - 1) c.args.width c.args.a order within wide c.in_ok-sort.ensures.sort (node_kept c.args.self.now c.sort.new.self c.args.a c.in_ok-sort.ensures.extends c.requires.a); plain = refl }

pub returns-clause-node : goal.returns-clause-node
returns-clause-node c =
    let wide : c.args.low + c.args.width - 1 - c.args.low + 1 ≡ c.args.width = omega (arith, c.requires.some) in
    made_slice c.sort.new.self c.put.new.self c.in_ok-sort.sort c.in_ok-id.id c.args.low (c.args.low + c.args.width - 1) c.args.width c.args.a c.in_ok-id.ensures.line.0 c.in_ok-id.ensures.line.1 c.in_ok-sort.ensures.sort wide
