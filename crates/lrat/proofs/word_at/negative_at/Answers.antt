use Rattle.lrat.proofs.WordAtLemmas.{negative_word}
use Rattle.lrat.proofs.word_at.negative_at.Goals as goal

pub returns : goal.returns
returns c = negative_word c.args.bytes.now c.args.at c.in_ok-value.value c.in_ok-value.end c.requires.inside c.requires.minus c.in_ok-value.ensures
