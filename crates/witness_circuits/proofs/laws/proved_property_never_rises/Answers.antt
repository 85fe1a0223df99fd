use Rattle.witness_circuits.proofs.laws.proved_property_never_rises.Goals as goal

pub returns : goal.returns
returns c circuit k w m t form text line test derived rise =
    c.guarded_property_never_rises.ensures circuit k w m (c.unsatisfiable_where_it_guards.ensures.guards circuit k w m t test (c.derived_is_unsatisfiable.ensures form _ text line derived)) rise
