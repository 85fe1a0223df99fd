use Rattle.witness_circuits.proofs.laws.certified_property_never_rises.Goals as goal

pub returns : goal.returns
returns c circuit k w m a rise = c.guarded_property_never_rises.ensures circuit k w m (c.certificates_guard.ensures circuit k w m a) rise
