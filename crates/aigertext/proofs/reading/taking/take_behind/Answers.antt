use Rattle.aigertext.proofs.reading.taking.take_behind.Goals as goal

pub returns-in-Some-clause-taken : goal.returns-in-Some-clause-taken
returns-in-Some-clause-taken g c = rw (c.in-Ok.ensures.items_if_clones_equal (λ x y same. same), c.in-Some.is) at c.in_ok-taken.ensures.taken

pub returns-clause-taken : goal.returns-clause-taken
returns-clause-taken g c = rw c.own.ensures (rw (c.in-Ok.ensures.items_if_clones_equal (λ x y same. same), c.in_default-2.is) at c.in_ok-taken.ensures.taken)
