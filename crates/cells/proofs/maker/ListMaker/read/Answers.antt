use Rattle.std.proofs.Common.{◌≡◌, ℕ, ◌+◌, ◌-◌, ◌%◌, ◌^◌, [], ◌∷◌, IfOk, inl, inr, refl, subst, arith}
use Rattle.full.specs.Cells.{read_value}
use Rattle.full.specs.Gives.{GivesWord}
use Rattle.cells.proofs.LineLemmas.{node_stays, longer, new_from, extends_twice}
use Rattle.cells.proofs.ReadLemmas.{half_read, whole_read}
use Rattle.cells.proofs.maker.ListMaker.read.Goals as goal

pub read_low-requires-clause-index : goal.read_low-requires-clause-index
read_low-requires-clause-index c = node_stays c.args.self.now c.chosen_half.new.self (c.args.array ∷ c.args.index ∷ []) c.args.index c.args.index_width c.in_ok-half.ensures.extends c.requires.index

pub returns-clause-node : goal.returns-clause-node
returns-clause-node c =
    let is : c.args.index_width - 1 + 1 ≡ c.args.index_width = omega (arith, c.requires.some) in
    let index = node_stays c.args.self.now c.chosen_half.new.self (c.args.array ∷ c.args.index ∷ []) c.args.index c.args.index_width c.in_ok-half.ensures.extends c.requires.index in
    whole_read c.read_low.new.self c.args.array c.args.index c.args.index_width c.args.element_width c.read_low.result (node_stays c.chosen_half.new.self c.read_low.new.self (c.in_ok-half.half ∷ c.args.index ∷ []) c.args.index c.args.index_width c.read_low.ensures.extends index)
    (subst (λ (b : ℕ). IfOk c.read_low.result (GivesWord c.read_low.new.self c.args.element_width (λ g. read_value c.args.element_width (g c.args.array) (g c.args.index % 2 ^ b)))) is
    (half_read c.chosen_half.new.self c.read_low.new.self (c.in_ok-half.half ∷ c.args.index ∷ []) c.args.array c.in_ok-half.half c.args.index (c.args.index_width - 1) c.args.element_width c.read_low.result c.read_low.ensures.extends c.in_ok-half.ensures.reads
    c.read_low.ensures.node))

pub returns-clause-new : goal.returns-clause-new
returns-clause-new c =
    new_from c.args.self.now c.chosen_half.new.self c.read_low.new.self c.in_ok-half.half c.read_low.result c.in_ok-half.ensures.new (longer c.args.self.now c.chosen_half.new.self (c.args.array ∷ c.args.index ∷ []) c.in_ok-half.ensures.extends) c.read_low.ensures.named
    c.read_low.ensures.there

pub returns-clause-extends : goal.returns-clause-extends
returns-clause-extends c =
    extends_twice c.args.self.now c.chosen_half.new.self c.read_low.new.self (c.args.array ∷ c.args.index ∷ []) (c.in_ok-half.half ∷ c.args.index ∷ []) c.in_ok-half.ensures.extends c.read_low.ensures.extends (inl c.in_ok-half.ensures.new.0, (inr (inr (inl refl)), tt))
