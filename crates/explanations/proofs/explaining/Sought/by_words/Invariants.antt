use Rattle.std.proofs.Common.{◌≡◌, false, None, length}
use Rattle.std.specs.Prelude.{flat_map, map}
use Rattle.explanations.specs.Explanations.{search_of, with_words, words_in}
use Rattle.explanations.proofs.explaining.Sought.by_words.Given as goal

abbrev pub invariant-loop-rest : goal.invariant-loop-rest
invariant-loop-rest l =
    with_words l.reading.is_behind_line (search_of l.reading.sought) (flat_map words_in (map (λ word. word.now) l.rest))
    ≡ with_words false (record { number = None; name = None; in_first_line = None }) (flat_map words_in (map (λ word. word.now) l.words))

abbrev pub decreases-loop-rest : goal.decreases-loop-rest
decreases-loop-rest l = length l.rest
