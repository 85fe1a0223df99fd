use Rattle.btor2.proofs.SymbolLemmas.{all_printed, some_other}
use Rattle.btor2.proofs.symbol.printed_lanes.Goals as goal

pub returns-then-others-eq0-clause-printed : goal.returns-then-others-eq0-clause-printed
returns-then-others-eq0-clause-printed c = (all_printed c.args.text.now c.args.at c.requires c.type_inv.text c.if-others-eq0.true).printed

pub returns-clause-few : goal.returns-clause-few
returns-clause-few c = (some_other c.args.text.now c.args.at c.requires c.type_inv.text c.if-others-eq0.false).few

pub returns-clause-printed : goal.returns-clause-printed
returns-clause-printed c = (some_other c.args.text.now c.args.at c.requires c.type_inv.text c.if-others-eq0.false).printed

pub returns-clause-stops : goal.returns-clause-stops
returns-clause-stops c = (some_other c.args.text.now c.args.at c.requires c.type_inv.text c.if-others-eq0.false).stops_there
