use Rattle.std.proofs.Common.{◌≡◌, ℕ, ◌+◌, ◌-◌, ◌*◌, ◌^◌, ◌<◌, [], ◌∷◌, IfOk, subst, arith}
use Rattle.wide.specs.WideModels.{greatest_width}
use Rattle.full.specs.Cells.{repeat_value}
use Rattle.full.specs.Gives.{GivesWord}
use Rattle.cells.proofs.LineLemmas.{extends_twice}
use Rattle.cells.proofs.BitLemmas.{half_most, both_most}
use Rattle.cells.proofs.ReadLemmas.{twice_repeated}
use Rattle.cells.proofs.maker.ListMaker.+doubled.Goals as goal

pub array_width-width-requires-clause-most : goal.array_width-width-requires-clause-most
array_width-width-requires-clause-most t c =
    let is : c.args.bits - 1 + 1 ≡ c.args.bits = omega (arith, c.if-bits-eq0.false) in
    half_most (c.args.bits - 1) c.args.bits c.args.element greatest_width is c.requires.most

pub doubled-requires : goal.doubled-requires
doubled-requires t c =
    let is : c.args.bits - 1 + 1 ≡ c.args.bits = omega (arith, c.if-bits-eq0.false) in
    let falls : c.args.bits - 1 < t = omega (arith, is, c.decreases) in
    (falls, (c.requires.word, half_most (c.args.bits - 1) c.args.bits c.args.element greatest_width is c.requires.most))

pub concat-requires-clause-most : goal.concat-requires-clause-most
concat-requires-clause-most t c =
    let is : c.args.bits - 1 + 1 ≡ c.args.bits = omega (arith, c.if-bits-eq0.false) in
    both_most (c.args.bits - 1) c.args.bits c.args.element c.array_width-width.result greatest_width is c.array_width-width.ensures c.requires.most

pub returns-clause-node : goal.returns-clause-node
returns-clause-node t c =
    let is : c.args.bits - 1 + 1 ≡ c.args.bits = omega (arith, c.if-bits-eq0.false) in
    subst (λ (b : ℕ). IfOk c.concat.result (GivesWord c.concat.new.self (2 ^ b * c.args.element) (λ g. repeat_value c.args.element (2 ^ b) (g c.args.word)))) is
    (twice_repeated c.doubled.new.self c.concat.new.self (c.in_ok-half.half ∷ c.in_ok-half.half ∷ []) c.args.word c.in_ok-half.half (c.args.bits - 1) c.args.element c.array_width-width.result c.concat.result c.concat.ensures.extends c.array_width-width.ensures
    c.in_ok-half.ensures.node c.concat.ensures.node)

pub returns-clause-extends : goal.returns-clause-extends
returns-clause-extends t c =
    extends_twice c.args.self.now c.doubled.new.self c.concat.new.self (c.args.word ∷ []) (c.in_ok-half.half ∷ c.in_ok-half.half ∷ []) c.in_ok-half.ensures.extends c.concat.ensures.extends (c.in_ok-half.ensures.named, (c.in_ok-half.ensures.named, tt))
