use Rattle.std.proofs.Common.{[], ◌∷◌, inl, inr, refl}
use Rattle.cells.proofs.LineLemmas.{node_stays, extends_wider, may_wider}
use Rattle.cells.proofs.BitLemmas.{chosen_given}
use Rattle.cells.proofs.maker.ListMaker.chosen.Goals as goal

pub ite-requires-clause-condition : goal.ite-requires-clause-condition
ite-requires-clause-condition c = node_stays c.args.self.now c.halves.new.self (c.args.array ∷ []) c.args.bit 1 c.halves.ensures.extends c.requires.bit

pub returns-clause-node : goal.returns-clause-node
returns-clause-node c =
    chosen_given c.halves.new.self c.ite.new.self (c.args.bit ∷ c.in_ok-high.high ∷ c.in_ok-high.low ∷ []) c.args.array c.args.half c.args.bit c.in_ok-high.high c.in_ok-high.low c.ite.result c.ite.ensures.extends c.in_ok-high.ensures.high c.in_ok-high.ensures.low c.ite.ensures.node

pub returns-clause-extends : goal.returns-clause-extends
returns-clause-extends c =
    extends_wider c.args.self.now c.halves.new.self c.ite.new.self (c.args.array ∷ []) (c.args.bit ∷ c.in_ok-high.high ∷ c.in_ok-high.low ∷ []) (c.args.array ∷ c.args.bit ∷ []) c.in_ok-high.ensures.extends c.ite.ensures.extends
    (inr (inl refl), tt) (inr (inr (inl refl)), (may_wider c.args.self.now (c.args.array ∷ c.args.bit ∷ []) c.in_ok-high.high c.in_ok-high.ensures.new.0, (may_wider c.args.self.now (c.args.array ∷ c.args.bit ∷ []) c.in_ok-high.low c.in_ok-high.ensures.new.1.0, tt)))
