use Rattle.btor2.proofs.StateWords.{carried_word, free_word, not_free}
use Rattle.btor2.proofs.laws.words_of_states.Goals as goal

pub returns-clause-carried : goal.returns-clause-carried
returns-clause-carried c = carried_word

pub returns-clause-free : goal.returns-clause-free
returns-clause-free c = free_word

pub returns-clause-with_next : goal.returns-clause-with_next
returns-clause-with_next c = λ items state input f id frame named has. carried_word items state input f id frame named (not_free items id has)
