use Rattle.std.proofs.lemmas.Result.{IfOk-weaker}
use Rattle.engine_form.proofs.MadeLemmas.{FormMade-said}
use Rattle.engine_form.proofs.literals.make.Goals as goal

pub returns-clause-ok : goal.returns-clause-ok
returns-clause-ok g c =
    IfOk-weaker c.make_properties.result _ _
    (λ l m.
    FormMade-said c.args.circuit.now c.args.choice c.started.result c.before-2.result (g.G.Gates.made c.args.g.now) (g.G.Gates.made c.variable_literals.new.g) (g.G.Gates.made c.make_properties.new.g) c.in_ok-table.table l.table l.met l.bads.items
    c.started.ensures c.before-2.ensures c.requires.bare m.0 c.in_ok-table.ensures.ok m.1)
    c.make_properties.ensures.ok
