use Rattle.std.proofs.Common.{◌≡◌, ◌+◌, ◌≤◌, codes, count_by, length, map}
use Rattle.std.specs.Str.{bytes_eq}
use Rattle.wordings.specs.Orders.{files}
use Rattle.wordings.specs.Values.{said}
use Rattle.wordings.proofs.contents.input_total.Given as goal

abbrev pub invariant-loop-rest : goal.invariant-loop-rest
invariant-loop-rest l = record {
  total : l.total + count_by (λ name. bytes_eq name (codes "-")) (files (map said l.rest)) ≡ count_by (λ name. bytes_eq name (codes "-")) (files (map said l.parts));
  small : l.total + length l.rest ≤ length l.parts;
}

abbrev pub decreases-loop-rest : goal.decreases-loop-rest
decreases-loop-rest l = length l.rest
