use Rattle.std.proofs.Common.{ℕ, List, ◌++◌, ap₂, ◌∙◌}
use Rattle.std.proofs.lemmas.List.Sorted.{IsNonDecreasingBy-from_sort}
use Rattle.vectors.specs.Vectors.{NumberedVector, lines_that_differ}
use Rattle.vectors.proofs.DifferingLemmas.{lines_in_order}
use Rattle.vectors.proofs.judging.differing.Goals as goal

pub returns-clause-lines : goal.returns-clause-lines
returns-clause-lines c = λ all are.
    let noted = c.in_ok-note_all.ensures ∙ ap₂ (λ (before : List ℕ) (judged : List NumberedVector). before ++ lines_that_differ judged) c.new-lines.ensures.items c.as_slice.ensures.value in
    lines_in_order all c.args.vectors.now.items c.sort_unstable_by_key.new.self.items c.note_all.new.lines.items c.sort_unstable.new.self.items are c.sort_unstable_by_key.ensures.permutation noted
    c.sort_unstable.ensures.permutation (IsNonDecreasingBy-from_sort (λ x. x) _ c.sort_unstable.ensures.sorted)
