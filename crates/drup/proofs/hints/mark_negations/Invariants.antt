use Rattle.std.proofs.Common.{◌≡◌, ℕ, length, take}
use Rattle.drup.specs.Marked.{set_of}
use Rattle.drup.specs.Hints.{negated}
use Rattle.drup.proofs.hints.mark_negations.Given as goal

-- the negations of the literals before are marked
abbrev pub invariant-loop-literal : goal.invariant-loop-literal
invariant-loop-literal l = record {
  set : (k : ℕ) → set_of l.trail k ≡ negated (take l.literal-index l.clause) k;
  as_many : length l.trail.marks ≡ length l.initial.trail.marks;
}
