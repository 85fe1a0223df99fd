use Rattle.std.proofs.Common.{Option, IfOk, sym, subst}
use Rattle.pieces.specs.declared.node.Node.{Node}
use Rattle.pieces.specs.Nodes.{Makes}
use Rattle.pieces.specs.Sums.{IsCarry}
use Rattle.pieces.specs.Fills.{filled_word}
use Rattle.pieces.proofs.ListLemmas.{ok_with}
use Rattle.pieces.proofs.JoinLemmas.{filled_by}
use Rattle.pieces.proofs.joins.filler.Goals as goal

pub returns-in-Some-clause-node : goal.returns-in-Some-clause-node
returns-in-Some-clause-node c = let own = subst (IsCarry c.args.maker.now) c.in-Some.is c.requires.by in
    subst (λ (o : Option Node). IfOk c.sext.result (Makes c.sext.new.self c.args.width (λ g. filled_word g o c.args.width))) (sym c.in-Some.is)
    (ok_with _ _ c.sext.result (λ r h. filled_by c.args.maker.now c.sext.new.self c.in-Some.bit r c.args.width own.0 own.1 c.requires.least c.sext.ensures.extends h) c.sext.ensures.node)

pub returns-in-None-clause-node : goal.returns-in-None-clause-node
returns-in-None-clause-node c = subst (λ (o : Option Node). IfOk c.zero.result (Makes c.zero.new.self c.args.width (λ g. filled_word g o c.args.width))) (sym c.in-None.is) c.zero.ensures.node
