use Rattle.std.proofs.Common.{ℕ, sym, subst}
use Rattle.base.specs.declared.operators.Binary.TheVariants as binary
use Rattle.base.specs.Operator.{binary_value}
use Rattle.pieces.specs.Nodes.{word_of, bits_in, Makes}
use Rattle.pieces.proofs.ListLemmas.{ok_with}
use Rattle.pieces.proofs.SignLemmas.{at_most_signed}
use Rattle.pieces.proofs.signed.slte.Goals as goal

pub returns-clause-node : goal.returns-clause-node
returns-clause-node c = ok_with _ _ c.unary.result
    (λ r h. subst (λ (n : ℕ). Makes c.unary.new.self 1 (λ g. binary_value binary.Slte n (word_of g c.args.a.now) (word_of g c.args.b.now)) r) (sym c.requires.same)
    (at_most_signed c.slt.new.maker c.unary.new.self (bits_in c.args.b.now) c.args.a.now c.args.b.now c.in_ok-greater.greater r c.unary.ensures.extends c.in_ok-greater.ensures.node h)) c.unary.ensures.node
