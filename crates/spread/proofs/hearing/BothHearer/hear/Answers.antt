use Rattle.spread.proofs.hearing.BothHearer.hear.Goals as goal

pub returns : goal.returns
returns g c = λ over shape narrow text good cut ended short stands hears.
    (c.hear.ensures over.0 shape narrow text good cut ended short stands hears.0, c.hear-2.ensures over.1 shape narrow text good cut ended short stands hears.1)
