use Rattle.std.proofs.Common.{List, IfOk, sym, subst}
use Rattle.base.specs.declared.operators.Binary.{Binary}
use Rattle.base.specs.Operator.{binary_value}
use Rattle.btor2.specs.declared.item.Item.{Item}
use Rattle.pieces.specs.declared.node.Node.{Node}
use Rattle.pieces.specs.Nodes.{word_of, bits_in, MakesWord}
use Rattle.fitting.proofs.operators.operation.Goals as goal

-- nodes make the word that an operator gives
abbrev Gives : List Item → List Node → List Node → List Node → Binary → Type 0
Gives items a b rs op = MakesWord items (bits_in a) (λ g. binary_value op (bits_in a) (word_of g a) (word_of g b)) rs

pub returns-in-Udiv-clause-word : goal.returns-in-Udiv-clause-word
returns-in-Udiv-clause-word c = subst (λ (op : Binary). IfOk c.udiv.result (λ rs. Gives c.udiv.new.maker c.args.a.now c.args.b.now rs.items op)) (sym c.in-Udiv.is) c.udiv.ensures.word

pub returns-in-Sdiv-clause-word : goal.returns-in-Sdiv-clause-word
returns-in-Sdiv-clause-word c = subst (λ (op : Binary). IfOk c.sdiv.result (λ rs. Gives c.sdiv.new.maker c.args.a.now c.args.b.now rs.items op)) (sym c.in-Sdiv.is) c.sdiv.ensures.word

pub returns-in-Urem-clause-word : goal.returns-in-Urem-clause-word
returns-in-Urem-clause-word c = subst (λ (op : Binary). IfOk c.urem.result (λ rs. Gives c.urem.new.maker c.args.a.now c.args.b.now rs.items op)) (sym c.in-Urem.is) c.urem.ensures.word

pub returns-in-Srem-clause-word : goal.returns-in-Srem-clause-word
returns-in-Srem-clause-word c = subst (λ (op : Binary). IfOk c.srem.result (λ rs. Gives c.srem.new.maker c.args.a.now c.args.b.now rs.items op)) (sym c.in-Srem.is) c.srem.ensures.word

pub returns-in-Smod-clause-word : goal.returns-in-Smod-clause-word
returns-in-Smod-clause-word c = subst (λ (op : Binary). IfOk c.smod.result (λ rs. Gives c.smod.new.maker c.args.a.now c.args.b.now rs.items op)) (sym c.in-Smod.is) c.smod.ensures.word
