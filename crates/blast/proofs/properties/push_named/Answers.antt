use Rattle.std.proofs.lemmas.Result.{on_ok_weaker}
use Rattle.blast.proofs.PropertyLemmas.{Adds-free, Adds-named}
use Rattle.blast.proofs.properties.push_named.Goals as goal

pub give_name-requires-clause-free : goal.give_name-requires-clause-free
give_name-requires-clause-free c =
    rw (c.count-position.ensures.count, c.property_section-section.ensures)
    (Adds-free c.args.property c.args.circuit.now c.push_unnamed.new.circuit c.args.lit c.in_ok-push_unnamed.ensures.ok)

pub returns-clause-ok : goal.returns-clause-ok
returns-clause-ok c =
    on_ok_weaker c.give_name.result
    (λ renamed. Adds-named c.args.property c.args.circuit.now c.push_unnamed.new.circuit c.give_name.new.circuit c.args.lit c.args.name.now c.in_ok-push_unnamed.ensures.ok
    (rw (c.count-position.ensures.count, c.property_section-section.ensures) at renamed))
    c.give_name.ensures.ok
