use Rattle.btor2.specs.Items.{is_state, is_input}
use Rattle.runs.proofs.RankLemmas.{state_is_leaf, input_is_leaf}
use Rattle.runs.proofs.GivenLemmas.{set-map}
use Rattle.runs.proofs.laws.set_words.Goals as goal

pub returns-clause-states : goal.returns-clause-states
returns-clause-states c = λ items g k word w h. set-map is_state items g k word state_is_leaf w h

pub returns-clause-inputs : goal.returns-clause-inputs
returns-clause-inputs c = λ items g k word w h. set-map is_input items g k word input_is_leaf w h
