use Rattle.std.proofs.Common.{◌≡◌, ℕ, List, length, map}
use Rattle.std.specs.List.{list_all, list_any}
use Rattle.wordings.specs.declared.table.Kind.{Kind}
use Rattle.wordings.specs.Orders.{fits}
use Rattle.wordings.specs.Table.{words_of}
use Rattle.wordings.specs.Values.{said}
use Rattle.wordings.proofs.taking.all_fit.Given as goal

abbrev pub invariant-loop-rest : goal.invariant-loop-rest
invariant-loop-rest l = record {
  rest : list_all (λ p. list_any (λ (word : List ℕ × Kind). fits (map said l.parts) word.1 word.0 p) (words_of l.verb)) (map said l.rest)
      ≡ list_all (λ p. list_any (λ (word : List ℕ × Kind). fits (map said l.parts) word.1 word.0 p) (words_of l.verb)) (map said l.parts);
}

abbrev pub decreases-loop-rest : goal.decreases-loop-rest
decreases-loop-rest l = length l.rest
