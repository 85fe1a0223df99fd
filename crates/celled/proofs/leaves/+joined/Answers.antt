use Rattle.std.proofs.Common.{◌*◌, ◌/◌, [], ◌∷◌, arith}
use Rattle.wide.specs.WideModels.{greatest_width}
use Rattle.cells.proofs.NodeLemmas.{ok_with}
use Rattle.celled.proofs.GrowLemmas.{grows_by, grows_twice, node_grown}
use Rattle.celled.proofs.ArrayLemmas.{halved, low_cells, high_cells, half_most, joined_word}
use Rattle.celled.proofs.leaves.+joined.Goals as goal

pub joined-requires : goal.joined-requires
joined-requires t c =
    let h = halved c.args.count c.requires.power c.if-count-eq1.false in
    let most = half_most c.args.count c.args.size greatest_width h c.requires.most in
    let less = h.less in
    (omega (arith, less, c.decreases), ((h.k, h.power), (low_cells c.args.maker.now c.args.size c.args.first c.args.count h c.requires.cells, (omega (arith, most), omega (arith, less, c.requires.fits)))))

pub joined-requires-2 : goal.joined-requires-2
joined-requires-2 t c =
    let h = halved c.args.count c.requires.power c.if-count-eq1.false in
    let most = half_most c.args.count c.args.size greatest_width h c.requires.most in
    let less = h.less in
    let both = h.both in
    (omega (arith, less, c.decreases), ((h.k, h.power), (high_cells c.args.maker.now c.joined.new.maker c.args.size c.args.first c.args.count h c.in_ok-low.ensures.grows c.requires.cells, (omega (arith, most), omega (arith, both, c.requires.fits)))))

pub concat-requires-clause-low : goal.concat-requires-clause-low
concat-requires-clause-low t c = node_grown c.joined.new.maker c.joined-2.new.maker c.in_ok-low.low (c.args.count / 2 * c.args.size) c.in_ok-high.ensures.grows c.in_ok-low.ensures.word.width

pub concat-requires-clause-most : goal.concat-requires-clause-most
concat-requires-clause-most t c = half_most c.args.count c.args.size greatest_width (halved c.args.count c.requires.power c.if-count-eq1.false) c.requires.most

pub returns-clause-word : goal.returns-clause-word
returns-clause-word t c =
    let h = halved c.args.count c.requires.power c.if-count-eq1.false in
    ok_with _ _ c.concat.result
    (λ node word.
    joined_word c.joined.new.maker c.joined-2.new.maker c.concat.new.self c.args.first c.args.count c.args.size c.in_ok-low.low c.in_ok-high.high node h c.in_ok-high.ensures.grows
    (grows_by c.joined-2.new.maker c.concat.new.self (c.in_ok-high.high ∷ c.in_ok-low.low ∷ []) c.concat.ensures.extends) c.in_ok-low.ensures.word c.in_ok-high.ensures.word word) c.concat.ensures.node

pub returns-clause-grows : goal.returns-clause-grows
returns-clause-grows t c =
    let grown = grows_twice c.args.maker.now c.joined-2.new.maker c.concat.new.self (grows_twice c.args.maker.now c.joined.new.maker c.joined-2.new.maker c.in_ok-low.ensures.grows c.in_ok-high.ensures.grows)
    (grows_by c.joined-2.new.maker c.concat.new.self (c.in_ok-high.high ∷ c.in_ok-low.low ∷ []) c.concat.ensures.extends) in
    ok_with _ _ c.concat.result (λ node word. grown) c.concat.ensures.node
