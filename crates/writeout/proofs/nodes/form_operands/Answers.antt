use Rattle.btor2.specs.Items.{operands}
use Rattle.writeout.specs.Forms.{minus_at}
use Rattle.writeout.specs.Tables.{writing}
use Rattle.writeout.proofs.GrowLemmas.{grows_on}
use Rattle.writeout.proofs.LineLemmas.{nodes_at}
use Rattle.writeout.proofs.NodeLemmas.{at_on, done_at}
use Rattle.writeout.proofs.nodes.form_operands.Goals as goal

pub form_operand-requires-clause-node : goal.form_operand-requires-clause-node
form_operand-requires-clause-node g c = nodes_at c.args.full.now g.line c.args.body.now c.args.minuses.now 0 c.know.ensures.model c.requires.1.1.0 c.requires.1.1.1.0

pub form_operand-requires-clause-done : goal.form_operand-requires-clause-done
form_operand-requires-clause-done g c = done_at c.args.full.now (writing c.args.tables.now c.args.maker.now) c.args.body.now c.args.minuses.now g.line.says 0 c.requires.1.1.1.0 c.requires.1.1.1.1

pub form_operand-requires-2-clause-node : goal.form_operand-requires-2-clause-node
form_operand-requires-2-clause-node g c = nodes_at c.args.full.now g.line c.args.body.now c.args.minuses.now 1 c.know.ensures.model c.requires.1.1.0 c.requires.1.1.1.0

pub form_operand-requires-2-clause-done : goal.form_operand-requires-2-clause-done
form_operand-requires-2-clause-done g c = done_at c.args.full.now (writing c.args.tables.now c.args.maker.now) c.args.body.now c.args.minuses.now g.line.says 1 c.requires.1.1.1.0 c.requires.1.1.1.1

pub form_operand-requires-3-clause-node : goal.form_operand-requires-3-clause-node
form_operand-requires-3-clause-node g c = nodes_at c.args.full.now g.line c.args.body.now c.args.minuses.now 2 c.know.ensures.model c.requires.1.1.0 c.requires.1.1.1.0

pub form_operand-requires-3-clause-done : goal.form_operand-requires-3-clause-done
form_operand-requires-3-clause-done g c = done_at c.args.full.now (writing c.args.tables.now c.args.maker.now) c.args.body.now c.args.minuses.now g.line.says 2 c.requires.1.1.1.0 c.requires.1.1.1.1

pub returns-clause-x : goal.returns-clause-x
returns-clause-x g c =
    let w1 = writing c.args.tables.now c.form_operand.new.maker in
    let w2 = writing c.args.tables.now c.form_operand-2.new.maker in
    at_on c.args.full.now w2 c.form_operand-3.new.maker (operands c.args.body.now) (minus_at c.args.minuses.now 0) 0 c.in_ok-x.x c.in_ok-z.ensures.grows
    (at_on c.args.full.now w1 c.form_operand-2.new.maker (operands c.args.body.now) (minus_at c.args.minuses.now 0) 0 c.in_ok-x.x c.in_ok-y.ensures.grows c.in_ok-x.ensures.operand)

pub returns-clause-y : goal.returns-clause-y
returns-clause-y g c =
    let w2 = writing c.args.tables.now c.form_operand-2.new.maker in
    at_on c.args.full.now w2 c.form_operand-3.new.maker (operands c.args.body.now) (minus_at c.args.minuses.now 1) 1 c.in_ok-y.y c.in_ok-z.ensures.grows c.in_ok-y.ensures.operand

pub returns-clause-grows : goal.returns-clause-grows
returns-clause-grows g c =
    let w = writing c.args.tables.now c.args.maker.now in
    grows_on c.args.full.now w c.form_operand-2.new.maker c.form_operand-3.new.maker (grows_on c.args.full.now w c.form_operand.new.maker c.form_operand-2.new.maker c.in_ok-x.ensures.grows c.in_ok-y.ensures.grows) c.in_ok-z.ensures.grows
