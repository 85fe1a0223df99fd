use Rattle.std.proofs.Common.{ap, ◌∙◌}
use Rattle.certificates.specs.Reading.{line_words}
use Rattle.certificates.proofs.WordLemmas.{words-none, words-blank}
use Rattle.certificates.proofs.words.first_word.Goals as goal

pub returns-in-None-clause-words : goal.returns-in-None-clause-words
returns-in-None-clause-words c = words-none c.args.line.now c.in-None.ensures

pub returns-in-Some-clause-words : goal.returns-in-Some-clause-words
returns-in-Some-clause-words c = ap line_words c.in-Some.ensures.0 ∙ words-blank c.in-Some.word.now c.in-Some.behind.now c.in-Some.ensures.1
