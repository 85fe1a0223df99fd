use Rattle.std.proofs.Common.{length, sym, ap, subst, ◌∙◌, arith}
use Rattle.pieces.proofs.ListLemmas.{nodes_at}
use Rattle.fitting.specs.Tables.{table_of}
use Rattle.fitting.proofs.OperatorLemmas.{single_bits}
use Rattle.fitting.proofs.FormLemmas.{bad_fitted}
use Rattle.fitting.proofs.FitterLemmas.{bad_node, OneNode, single}
use Rattle.fitting.proofs.fitter.Fitter.add_bad.Goals as goal

pub bounds-get-0 : goal.bounds-get-0
bounds-get-0 g c =
    let own = bad_node g.at.wide (table_of c.args.self.now) c.args.self.now.maker g.at.id c.args.operand g.at.symbol c.requires.0 c.requires.1.0 in
    let one = ap length c.get.ensures ∙ own.one in
    omega (arith, one)

pub bad-requires-clause-a : goal.bad-requires-clause-a
bad-requires-clause-a g c =
    let own = subst (OneNode c.args.self.now.maker) (sym c.get.ensures) (bad_node g.at.wide (table_of c.args.self.now) c.args.self.now.maker g.at.id c.args.operand g.at.symbol c.requires.0 c.requires.1.0) in
    let one = own.one in
    nodes_at c.args.self.now.maker c.get.result.now 0 _ (omega (arith, one)) own.word.nodes

pub bad-requires-clause-bit : goal.bad-requires-clause-bit
bad-requires-clause-bit g c =
    let own = subst (OneNode c.args.self.now.maker) (sym c.get.ensures) (bad_node g.at.wide (table_of c.args.self.now) c.args.self.now.maker g.at.id c.args.operand g.at.symbol c.requires.0 c.requires.1.0) in
    sym (single_bits c.get.result.now _ own.one) ∙ own.bit

pub returns-clause-fitted : goal.returns-clause-fitted
returns-clause-fitted g c =
    let own = bad_node g.at.wide (table_of c.args.self.now) c.args.self.now.maker g.at.id c.args.operand g.at.symbol c.requires.0 c.requires.1.0 in
    bad_fitted g.at.wide (table_of c.args.self.now) c.args.self.now.maker c.bad.new.self g.at.id c.args.operand _ g.at.symbol c.args.symbol _ c.requires.0 c.requires.1.0
    (sym c.get.ensures ∙ single c.get.result.now (record { id = 0; width = 0 }) (ap length c.get.ensures ∙ own.one)) c.requires.1.1 c.in_ok-bad.ensures.line
