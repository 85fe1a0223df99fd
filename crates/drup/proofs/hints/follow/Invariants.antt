use Rattle.std.proofs.Common.{◌≡◌, length, drop}
use Rattle.drup.specs.Marked.{set_of}
use Rattle.drup.specs.Named.{clause_of}
use Rattle.drup.specs.Hints.{follow}
use Rattle.drup.proofs.hints.follow.Given as goal

-- what all hints show is what those that are left show with what is marked
abbrev pub invariant-loop-hint : goal.invariant-loop-hint
invariant-loop-hint l = record {
  leads : follow (clause_of l.named) (set_of l.initial.trail) l.hints ≡ follow (clause_of l.named) (set_of l.trail) (drop l.hint-index l.hints);
  as_many : length l.trail.marks ≡ length l.initial.trail.marks;
}
