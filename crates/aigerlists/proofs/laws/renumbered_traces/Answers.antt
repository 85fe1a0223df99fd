use Rattle.aigerlists.proofs.LooseTraceLemmas.{loose_trace_exists, shows_same, same_resets}
use Rattle.aigerlists.proofs.CompleteLemmas.{is_circuit}
use Rattle.aigerlists.proofs.laws.renumbered_traces.Goals as goal

pub returns-clause-exists : goal.returns-clause-exists
returns-clause-exists x l c state inputs valid is bits frames = loose_trace_exists l c state inputs valid is (is_circuit l c valid is) bits frames

pub returns-clause-same : goal.returns-clause-same
returns-clause-same x l c state inputs vs ws valid is one two = shows_same l c state inputs vs ws is (is_circuit l c valid is) one two

pub returns-clause-resets : goal.returns-clause-resets
returns-clause-resets c = same_resets
