use Rattle.std.proofs.Common.{◌≡◌, take, sum_by}
use Rattle.blast.specs.Cost.{line_cost}
use Rattle.blast.proofs.widths.cost.Given as goal

abbrev pub invariant-loop-place : goal.invariant-loop-place
invariant-loop-place l = l.total ≡ sum_by (λ x. line_cost l.model x.body) (take l.place l.items)
