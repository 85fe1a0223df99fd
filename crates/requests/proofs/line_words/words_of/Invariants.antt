use Rattle.std.proofs.Common.{◌≡◌, ◌++◌, true, length, map}
use Rattle.btor2text.specs.Tokens.{tokens}
use Rattle.requests.proofs.line_words.words_of.Given as goal

abbrev pub invariant-loop-word : goal.invariant-loop-word
invariant-loop-word l = record { so_far : l.are_texts ≡ true → map (λ text. text.now) l.found.items ++ tokens l.rest ≡ tokens l.line }

abbrev pub decreases-loop-word : goal.decreases-loop-word
decreases-loop-word l = length (tokens l.rest)
