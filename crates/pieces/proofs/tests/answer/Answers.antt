use Rattle.std.proofs.Common.{sym, subst, IfOk}
use Rattle.pieces.specs.declared.tests.Test.{Test}
use Rattle.pieces.specs.Nodes.{Makes}
use Rattle.pieces.specs.Tests.{test_value}
use Rattle.pieces.proofs.tests.answer.Goals as goal

pub returns-in-Same-clause-node : goal.returns-in-Same-clause-node
returns-in-Same-clause-node c = subst (λ (e : Test). IfOk c.binary.result (Makes c.binary.new.self 1 (λ g. test_value e c.args.a.width (g c.args.a.id) (g c.args.b.id)))) (sym c.in-Same.is) c.binary.ensures.node

pub returns-in-Other-clause-node : goal.returns-in-Other-clause-node
returns-in-Other-clause-node c = subst (λ (e : Test). IfOk c.binary-in-Other.result (Makes c.binary-in-Other.new.self 1 (λ g. test_value e c.args.a.width (g c.args.a.id) (g c.args.b.id)))) (sym c.in-Other.is) c.binary-in-Other.ensures.node

pub returns-in-All-clause-node : goal.returns-in-All-clause-node
returns-in-All-clause-node c = subst (λ (e : Test). IfOk c.unary.result (Makes c.unary.new.self 1 (λ g. test_value e c.args.a.width (g c.args.a.id) (g c.args.b.id)))) (sym c.in-All.is) c.unary.ensures.node

pub returns-in-Any-clause-node : goal.returns-in-Any-clause-node
returns-in-Any-clause-node c = subst (λ (e : Test). IfOk c.unary-in-Any.result (Makes c.unary-in-Any.new.self 1 (λ g. test_value e c.args.a.width (g c.args.a.id) (g c.args.b.id)))) (sym c.in-Any.is) c.unary-in-Any.ensures.node

pub returns-in-Odd-clause-node : goal.returns-in-Odd-clause-node
returns-in-Odd-clause-node c = subst (λ (e : Test). IfOk c.unary-in-Odd.result (Makes c.unary-in-Odd.new.self 1 (λ g. test_value e c.args.a.width (g c.args.a.id) (g c.args.b.id)))) (sym c.in-Odd.is) c.unary-in-Odd.ensures.node
