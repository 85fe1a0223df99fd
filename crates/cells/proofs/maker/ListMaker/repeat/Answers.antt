use Rattle.std.proofs.Common.{◌≡◌, ℕ, ◌+◌, ◌-◌, ◌*◌, ◌^◌, [], ◌∷◌, IfOk, subst, arith}
use Rattle.wide.specs.WideModels.{greatest_width}
use Rattle.full.specs.Cells.{repeat_value}
use Rattle.full.specs.Gives.{GivesWord}
use Rattle.cells.proofs.LineLemmas.{extends_twice}
use Rattle.cells.proofs.BitLemmas.{both_most}
use Rattle.cells.proofs.ReadLemmas.{twice_repeated}
use Rattle.cells.proofs.maker.ListMaker.repeat.Goals as goal

pub concat-requires-clause-most : goal.concat-requires-clause-most
concat-requires-clause-most c =
    let is : c.args.index_width - 1 + 1 ≡ c.args.index_width = omega (arith, c.requires.some) in
    both_most (c.args.index_width - 1) c.args.index_width c.args.element_width c.array_width-width.result greatest_width is c.array_width-width.ensures c.requires.most

pub returns-clause-node : goal.returns-clause-node
returns-clause-node c =
    let is : c.args.index_width - 1 + 1 ≡ c.args.index_width = omega (arith, c.requires.some) in
    subst (λ (b : ℕ). IfOk c.concat.result (GivesWord c.concat.new.self (2 ^ b * c.args.element_width) (λ g. repeat_value c.args.element_width (2 ^ b) (g c.args.word)))) is
    (twice_repeated c.doubled.new.self c.concat.new.self (c.in_ok-half.half ∷ c.in_ok-half.half ∷ []) c.args.word c.in_ok-half.half (c.args.index_width - 1) c.args.element_width c.array_width-width.result c.concat.result c.concat.ensures.extends
    c.array_width-width.ensures c.in_ok-half.ensures.node c.concat.ensures.node)

pub returns-clause-extends : goal.returns-clause-extends
returns-clause-extends c =
    extends_twice c.args.self.now c.doubled.new.self c.concat.new.self (c.args.word ∷ []) (c.in_ok-half.half ∷ c.in_ok-half.half ∷ []) c.in_ok-half.ensures.extends c.concat.ensures.extends (c.in_ok-half.ensures.named, (c.in_ok-half.ensures.named, tt))
