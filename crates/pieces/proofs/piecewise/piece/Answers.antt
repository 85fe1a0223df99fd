use Rattle.std.proofs.Common.{ℕ, subst, sym, IfOk}
use Rattle.base.specs.Operator.{binary_value}
use Rattle.pieces.specs.declared.piecewise.Each.{Each}
use Rattle.pieces.specs.Nodes.{Makes}
use Rattle.pieces.specs.Piecewise.{IsEach, piece_value}
use Rattle.pieces.proofs.PiecewiseLemmas.{bitwise_width}
use Rattle.pieces.proofs.piecewise.piece.Goals as goal

pub returns-in-Bitwise-clause-node : goal.returns-in-Bitwise-clause-node
returns-in-Bitwise-clause-node c =
    subst (λ (e : Each). IfOk c.binary.result (Makes c.binary.new.self c.args.a.width (λ g. piece_value g e c.args.a.width (g c.args.a.id) (g c.args.b.id)))) (sym c.in-Bitwise.is)
    (subst (λ (n : ℕ). IfOk c.binary.result (Makes c.binary.new.self n (λ g. binary_value c.in-Bitwise.operator c.args.a.width (g c.args.a.id) (g c.args.b.id))))
    (bitwise_width c.in-Bitwise.operator c.args.a.width (subst (IsEach c.args.maker.now) c.in-Bitwise.is c.requires.by)) c.binary.ensures.node)

pub returns-in-Choice-clause-node : goal.returns-in-Choice-clause-node
returns-in-Choice-clause-node c =
    subst (λ (e : Each). IfOk c.ite.result (Makes c.ite.new.self c.args.a.width (λ g. piece_value g e c.args.a.width (g c.args.a.id) (g c.args.b.id)))) (sym c.in-Choice.is) c.ite.ensures.node
