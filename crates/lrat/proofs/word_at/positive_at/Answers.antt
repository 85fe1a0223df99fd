use Rattle.lrat.proofs.WordAtLemmas.{number_word}
use Rattle.lrat.proofs.word_at.positive_at.Goals as goal

pub returns : goal.returns
returns c = number_word c.args.bytes.now c.args.at c.in_ok-value.value c.in_ok-value.end c.in_ok-value.ensures
