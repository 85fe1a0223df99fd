use Rattle.blast.proofs.WorkedLowering.{toggler_lowered, follower_lowered, free_alone_lowered}
use Rattle.blast.proofs.laws.worked_lowerings.Goals as goal

pub returns-clause-lowers : goal.returns-clause-lowers
returns-clause-lowers c = toggler_lowered c.worked_traces-2.ensures.is_model c.worked_traces.ensures.valid

pub returns-clause-follower : goal.returns-clause-follower
returns-clause-follower c = follower_lowered c.worked_free_states.ensures.follower_is_model c.worked_free_states.ensures.follower_is_circuit

pub returns-clause-free_alone : goal.returns-clause-free_alone
returns-clause-free_alone c = free_alone_lowered c.worked_free_states.ensures.alone_is_model c.worked_free_states.ensures.input_is_circuit
