use Rattle.std.proofs.Common.{◌≡◌, ◌++◌, List, ℕ}
use Rattle.std.specs.Str.Iter.{split_ascii_whitespace_text}
use Rattle.explanations.specs.Explanations.{search_of, with_words, words_in}
use Rattle.explanations.proofs.explaining.Reading.take.Given as goal

abbrev pub invariant-loop-word : goal.invariant-loop-word
invariant-loop-word l = record { left : (more : List (List ℕ)) → with_words l.self.is_behind_line (search_of l.self.sought) (words_in (split_ascii_whitespace_text l.words) ++ more) ≡ with_words l.fn.self.is_behind_line (search_of l.fn.self.sought) (words_in l.text ++ more) }
