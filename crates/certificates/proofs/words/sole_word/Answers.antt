use Rattle.std.proofs.Common.{List, ℕ, sym, ap, ◌∙◌}
use Rattle.certificates.specs.Reading.{line_words, sole}
use Rattle.certificates.proofs.WordLemmas.{words-none, sole-blank}
use Rattle.certificates.proofs.words.sole_word.Goals as goal

pub returns-in-None : goal.returns-in-None
returns-in-None c = sym (ap sole (words-none c.args.bytes.now c.in-None.ensures))

pub returns-in-Some : goal.returns-in-Some
returns-in-Some c = sym (ap (λ (line : List ℕ). sole (line_words line)) c.in-Some.ensures.0 ∙ sole-blank c.in-Some._word.now c.in-Some._behind.now c.in-Some.ensures.1)
