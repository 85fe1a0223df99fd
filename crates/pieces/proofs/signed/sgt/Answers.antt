use Rattle.std.proofs.Common.{ℕ, sym, subst}
use Rattle.base.specs.declared.operators.Binary.TheVariants as binary
use Rattle.base.specs.Operator.{binary_value}
use Rattle.pieces.specs.Nodes.{word_of, Makes}
use Rattle.pieces.proofs.ListLemmas.{ok_with}
use Rattle.pieces.proofs.signed.sgt.Goals as goal

pub returns-clause-node : goal.returns-clause-node
returns-clause-node c = ok_with _ _ c.slt.result
    (λ r h. subst (λ (n : ℕ). Makes c.slt.new.maker 1 (λ g. binary_value binary.Slt n (word_of g c.args.b.now) (word_of g c.args.a.now)) r) (sym c.requires.same) h) c.slt.ensures.node
