use Rattle.fit.proofs.LineLemmas.{carries_word, carries_no_word, carries_input, carries_state}
use Rattle.fit.proofs.laws.lines_by_pieces.Goals as goal

pub returns-clause-operator : goal.returns-clause-operator
returns-clause-operator c = carries_word

pub returns-clause-input : goal.returns-clause-input
returns-clause-input c = carries_input

pub returns-clause-state : goal.returns-clause-state
returns-clause-state c = carries_state

pub returns-clause-no_word : goal.returns-clause-no_word
returns-clause-no_word c = carries_no_word
