use Rattle.pieces.specs.Nodes.{bits_in}
use Rattle.pieces.proofs.ListLemmas.{ok_with}
use Rattle.pieces.proofs.SignLemmas.{at_most_signed}
use Rattle.pieces.proofs.signed.sgte.Goals as goal

pub returns-clause-node : goal.returns-clause-node
returns-clause-node c = ok_with _ _ c.unary.result (λ r h. at_most_signed c.slt.new.maker c.unary.new.self (bits_in c.args.a.now) c.args.b.now c.args.a.now c.in_ok-less.less r c.unary.ensures.extends c.in_ok-less.ensures.node h) c.unary.ensures.node
