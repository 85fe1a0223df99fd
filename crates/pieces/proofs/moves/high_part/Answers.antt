use Rattle.std.proofs.Common.{IfOk, Vec, Global, sym, subst}
use Rattle.pieces.specs.declared.node.Node.{Node}
use Rattle.pieces.specs.declared.moves.Move.{Move}
use Rattle.pieces.specs.declared.moves.Move.TheVariants as move
use Rattle.pieces.specs.Nodes.{word_of, MakesWord}
use Rattle.pieces.specs.Moves.{entering_value, high_bits, high_value}
use Rattle.pieces.proofs.MoveLemmas.{either_way}
use Rattle.pieces.proofs.moves.high_part.Goals as goal

pub returns-in-Right-clause-word : goal.returns-in-Right-clause-word
returns-in-Right-clause-word c =
    let is = c.in-Right.is in
    either_way (λ (m : Move). IfOk c.entering.result (λ (rs : Vec Node Global). MakesWord c.entering.new.maker c.args.amount (λ g. entering_value m c.args.width (word_of g c.args.a.now) c.args.amount) rs.items) → IfOk c.entering.result (λ (rs : Vec Node Global). MakesWord c.entering.new.maker (high_bits m c.args.width c.args.amount) (λ g. high_value m c.args.width (word_of g c.args.a.now) c.args.amount) rs.items))
    c.args.by move.Right move.Signed is (λ h. h) (λ h. h) c.entering.ensures.word

pub returns-in-TurnRight-clause-word : goal.returns-in-TurnRight-clause-word
returns-in-TurnRight-clause-word c = subst (λ (m : Move). IfOk c.cut-in-TurnRight.result (λ (rs : Vec Node Global). MakesWord c.cut-in-TurnRight.new.maker (high_bits m c.args.width c.args.amount) (λ g. high_value m c.args.width (word_of g c.args.a.now) c.args.amount) rs.items)) (sym c.in-TurnRight.is) c.cut-in-TurnRight.ensures.word
