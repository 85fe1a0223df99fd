use Rattle.std.proofs.Common.{◌+◌, ◌-◌, ◌*◌, ◌/◌, ◌%◌, ◌^◌, ◌<◌, ◌≤◌, List, length, subst, sym, ap, arith}
use Rattle.pieces.specs.declared.node.Node.{Node}
use Rattle.pieces.specs.Nodes.{word_of, bits_in, AreNodes, HaveBits, IsNode, Makes}
use Rattle.pieces.specs.Cuts.{IsInFirst}
use Rattle.pieces.proofs.NodeLemmas.{node_kept}
use Rattle.pieces.proofs.ListLemmas.{nodes_kept, bit_in_first, ok_with}
use Rattle.pieces.proofs.CutLemmas.{bits_low, bits_across}
use Rattle.pieces.proofs.cuts.+bits.Goals as goal

pub returns-then-width-own-clause-node : goal.returns-then-width-own-clause-node
returns-then-width-own-clause-node t c =
    let all = c.in-Some.ensures.cases.0 in
    let first = c.in-Some.first.now in
    let more = c.in-Some.more.now in
    let in_first : IsNode c.args.maker.now first = (subst (AreNodes c.args.maker.now) all c.requires.nodes).0 in
    let inside : c.args.low < first.width = subst (λ (l : List Node). IsInFirst l c.args.low) all c.requires.first in
    let enough : c.args.low + c.args.width ≤ first.width = omega (arith, inside, c.if-width-own.true) in
    ok_with (Makes c.part.new.maker c.args.width (λ g. g first.id / 2 ^ c.args.low % 2 ^ c.args.width)) (Makes c.part.new.maker c.args.width (λ g. word_of g c.args.nodes.now / 2 ^ c.args.low % 2 ^ c.args.width)) c.part.result
    (λ r h. subst (λ (l : List Node). Makes c.part.new.maker c.args.width (λ g. word_of g l / 2 ^ c.args.low % 2 ^ c.args.width) r) (sym all)
    (bits_low c.part.new.maker first more c.args.low c.args.width r (node_kept c.args.maker.now c.part.new.maker first c.part.ensures.extends in_first) enough h)) c.part.ensures.node

pub bits-requires : goal.bits-requires
bits-requires t c =
    let all = c.in-Some.ensures.cases.0 in
    let first = c.in-Some.first.now in
    let more = c.in-Some.more.now in
    let in_more : AreNodes c.args.maker.now more = (subst (AreNodes c.args.maker.now) all c.requires.nodes).1 in
    let have : HaveBits more = (subst HaveBits all c.know_all.ensures).1 in
    let inside : c.args.low < first.width = subst (λ (l : List Node). IsInFirst l c.args.low) all c.requires.first in
    let bits : c.args.low + c.args.width ≤ bits_in more + first.width = subst (λ (l : List Node). c.args.low + c.args.width ≤ bits_in l) all c.requires.within in
    let falls : length more < t = omega (arith, ap length all, c.decreases) in
    (falls, (nodes_kept c.args.maker.now c.part-2.new.maker more c.in_ok-own_part.ensures.extends in_more, (omega (arith, c.if-width-own.false), (omega (arith, c.requires.most), (bit_in_first more have, omega (arith, inside, bits, c.if-width-own.false))))))

pub concat-requires-clause-low : goal.concat-requires-clause-low
concat-requires-clause-low t c = node_kept c.part-2.new.maker c.bits.new.maker c.in_ok-own_part.own_part c.in_ok-above.ensures.extends c.in_ok-own_part.ensures.node.node

pub returns-clause-node : goal.returns-clause-node
returns-clause-node t c =
    let all = c.in-Some.ensures.cases.0 in
    let first = c.in-Some.first.now in
    let more = c.in-Some.more.now in
    let p = c.in_ok-own_part.own_part in
    let a = c.in_ok-above.above in
    let in_first : IsNode c.args.maker.now first = (subst (AreNodes c.args.maker.now) all c.requires.nodes).0 in
    let inside : c.args.low < first.width = subst (λ (l : List Node). IsInFirst l c.args.low) all c.requires.first in
    let below : c.args.low ≤ first.width = omega (arith, inside) in
    let enough : first.width - c.args.low ≤ c.args.width = omega (arith, c.if-width-own.false) in
    ok_with (Makes c.concat.new.self (a.width + p.width) (λ g. g a.id * 2 ^ p.width + g p.id)) (Makes c.concat.new.self c.args.width (λ g. word_of g c.args.nodes.now / 2 ^ c.args.low % 2 ^ c.args.width)) c.concat.result
    (λ r h. subst (λ (l : List Node). Makes c.concat.new.self c.args.width (λ g. word_of g l / 2 ^ c.args.low % 2 ^ c.args.width) r) (sym all)
    (bits_across c.args.maker.now c.part-2.new.maker c.bits.new.maker c.concat.new.self first more c.args.low c.args.width p a r in_first
    c.in_ok-own_part.ensures.extends c.in_ok-above.ensures.extends c.concat.ensures.extends below enough c.in_ok-own_part.ensures.node c.in_ok-above.ensures.node h)) c.concat.ensures.node
