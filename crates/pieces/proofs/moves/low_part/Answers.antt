use Rattle.std.proofs.Common.{IfOk, Vec, Global}
use Rattle.pieces.specs.declared.node.Node.{Node}
use Rattle.pieces.specs.declared.moves.Move.{Move}
use Rattle.pieces.specs.declared.moves.Move.TheVariants as move
use Rattle.pieces.specs.Nodes.{word_of, MakesWord}
use Rattle.pieces.specs.Moves.{low_bits, low_value}
use Rattle.pieces.proofs.MoveLemmas.{three_ways}
use Rattle.pieces.proofs.moves.low_part.Goals as goal

pub returns-in-Right-clause-word : goal.returns-in-Right-clause-word
returns-in-Right-clause-word c = let made = c.cut-in-Right.ensures.word in
    three_ways (λ (m : Move). IfOk c.cut-in-Right.result (λ (rs : Vec Node Global). MakesWord c.cut-in-Right.new.maker (low_bits m c.args.width c.args.amount) (λ g. low_value m c.args.width (word_of g c.args.a.now) c.args.amount) rs.items)) c.args.by move.Right move.Signed move.TurnRight c.in-Right.is made made made
