use Rattle.fullunfit.proofs.KeptLemmas.{told_by_words}
use Rattle.fullunfit.proofs.laws.values_are_told_by_words.Goals as goal

pub returns : goal.returns
returns c = λ states inputs w shape names named narrow full p wide layout celled text r of few_states few_inputs read. told_by_words states inputs w shape names named narrow full p wide layout celled of few_states few_inputs text r read
