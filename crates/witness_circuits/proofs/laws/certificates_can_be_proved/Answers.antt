use Rattle.witness_circuits.proofs.laws.certificates_can_be_proved.Goals as goal

pub returns : goal.returns
returns c circuit k w m t test a = c.unsatisfiable_where_it_guards.ensures.unsatisfiable circuit k w m t test (c.certificates_guard.ensures circuit k w m a)
