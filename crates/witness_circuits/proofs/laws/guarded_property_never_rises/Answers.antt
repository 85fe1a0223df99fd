use Rattle.witness_circuits.proofs.GuardLemmas.{never_rises}
use Rattle.witness_circuits.proofs.laws.guarded_property_never_rises.Goals as goal

pub returns : goal.returns
returns c circuit k w m g rise = never_rises circuit k w m g (λ state inputs. c.exactly_one_trace.ensures.exists w state inputs g.circuit) rise
