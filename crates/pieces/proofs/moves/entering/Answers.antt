use Rattle.std.proofs.Common.{IfOk, Vec, Global, sym, subst, arith}
use Rattle.pieces.specs.declared.node.Node.{Node}
use Rattle.pieces.specs.declared.moves.Move.{Move}
use Rattle.pieces.specs.declared.moves.Move.TheVariants as move
use Rattle.pieces.specs.Nodes.{word_of, MakesWord}
use Rattle.pieces.specs.Moves.{entering_value}
use Rattle.pieces.proofs.ListLemmas.{ok_with}
use Rattle.pieces.proofs.MoveLemmas.{entered, four_ways}
use Rattle.pieces.proofs.moves.entering.Goals as goal

pub overflow_sub-width : goal.overflow_sub-width
overflow_sub-width c = omega (arith, c.requires.some)

pub field-requires-clause-within : goal.field-requires-clause-within
field-requires-clause-within c = omega (arith, c.requires.some, c.requires.wide)

pub returns-in_ok-sign-in-Signed-clause-word : goal.returns-in_ok-sign-in-Signed-clause-word
returns-in_ok-sign-in-Signed-clause-word c = subst (λ (m : Move). IfOk c.fill.result (λ (rs : Vec Node Global). MakesWord c.fill.new.maker c.args.places (λ g. entering_value m c.args.width (word_of g c.args.a.now) c.args.places) rs.items)) (sym c.in-Signed.is)
    (ok_with _ _ c.fill.result (λ rs h. entered c.field.new.maker c.fill.new.maker c.args.a.now rs.items c.args.width c.args.places c.in_ok-sign-in-Signed.sign c.fill.ensures.extends c.in_ok-sign-in-Signed.ensures.node h) c.fill.ensures.word)

pub returns-in-Left-clause-word : goal.returns-in-Left-clause-word
returns-in-Left-clause-word c = let made = c.fill-in-Left.ensures.word in
    four_ways (λ (m : Move). IfOk c.fill-in-Left.result (λ (rs : Vec Node Global). MakesWord c.fill-in-Left.new.maker c.args.places (λ g. entering_value m c.args.width (word_of g c.args.a.now) c.args.places) rs.items)) c.args.by move.Left move.Right move.TurnLeft move.TurnRight c.in-Left.is made made made made
