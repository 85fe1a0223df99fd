use Rattle.fulljudge.proofs.LawLemmas.{text_is_judged}
use Rattle.fulljudge.proofs.laws.texts_are_judged_by_words.Goals as goal

pub returns : goal.returns
returns c = λ full p wide layout celled text d j h words model few compares judges. text_is_judged full p wide layout celled text d j h words model few compares judges
