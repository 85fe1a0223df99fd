use Rattle.btor2.specs.Items.{is_state, is_input}
use Rattle.runs.proofs.GivenLemmas.{given-map, frame_given, frame_taken}
use Rattle.runs.proofs.laws.given_words.Goals as goal

pub returns-clause-states : goal.returns-clause-states
returns-clause-states c = given-map is_state

pub returns-clause-inputs : goal.returns-clause-inputs
returns-clause-inputs c = given-map is_input

pub returns-clause-frames : goal.returns-clause-frames
returns-clause-frames c = frame_given

pub returns-clause-no_others : goal.returns-clause-no_others
returns-clause-no_others c = frame_taken
