use Rattle.std.proofs.Common.{length, sym, ap, subst, ◌∙◌, arith}
use Rattle.pieces.proofs.ListLemmas.{nodes_at}
use Rattle.fitting.specs.Tables.{table_of}
use Rattle.fitting.proofs.OperatorLemmas.{single_bits}
use Rattle.fitting.proofs.FormLemmas.{constraint_fitted}
use Rattle.fitting.proofs.FitterLemmas.{constraint_node, OneNode, single}
use Rattle.fitting.proofs.fitter.Fitter.add_constraint.Goals as goal

pub bounds-get-0 : goal.bounds-get-0
bounds-get-0 g c =
    let own = constraint_node g.at.wide (table_of c.args.self.now) c.args.self.now.maker g.at.id c.args.operand g.at.symbol c.requires.0 c.requires.1.0 in
    let one = ap length c.get.ensures ∙ own.one in
    omega (arith, one)

pub constraint-requires-clause-a : goal.constraint-requires-clause-a
constraint-requires-clause-a g c =
    let own = subst (OneNode c.args.self.now.maker) (sym c.get.ensures) (constraint_node g.at.wide (table_of c.args.self.now) c.args.self.now.maker g.at.id c.args.operand g.at.symbol c.requires.0 c.requires.1.0) in
    let one = own.one in
    nodes_at c.args.self.now.maker c.get.result.now 0 _ (omega (arith, one)) own.word.nodes

pub constraint-requires-clause-bit : goal.constraint-requires-clause-bit
constraint-requires-clause-bit g c =
    let own = subst (OneNode c.args.self.now.maker) (sym c.get.ensures) (constraint_node g.at.wide (table_of c.args.self.now) c.args.self.now.maker g.at.id c.args.operand g.at.symbol c.requires.0 c.requires.1.0) in
    sym (single_bits c.get.result.now _ own.one) ∙ own.bit

pub returns-clause-fitted : goal.returns-clause-fitted
returns-clause-fitted g c =
    let own = constraint_node g.at.wide (table_of c.args.self.now) c.args.self.now.maker g.at.id c.args.operand g.at.symbol c.requires.0 c.requires.1.0 in
    constraint_fitted g.at.wide (table_of c.args.self.now) c.args.self.now.maker c.constraint.new.self g.at.id c.args.operand _ g.at.symbol c.args.symbol _ c.requires.0 c.requires.1.0
    (sym c.get.ensures ∙ single c.get.result.now (record { id = 0; width = 0 }) (ap length c.get.ensures ∙ own.one)) c.requires.1.1 c.in_ok-constraint.ensures.line
