use Rattle.std.proofs.Common.{◌≡◌, ◌≤◌, length}
use Rattle.drup.specs.Marked.{AreMarkedFirst}
use Rattle.drup.proofs.trail.Trail.undo.Given as goal

abbrev pub invariant-loop-self : goal.invariant-loop-self
invariant-loop-self l =
    record {
      order : AreMarkedFirst l.self-inside.marks.items l.self-inside.literals.items l.self-inside.count;
      literals : l.self-inside.literals ≡ l.initial.self-inside.literals;
      as_many : length l.self-inside.marks.items ≡ length l.initial.self-inside.marks.items;
      below : l.self-inside.count ≤ l.initial.self-inside.count;
      kept : l.kept ≤ l.self-inside.count;
    }

abbrev pub decreases-loop-self : goal.decreases-loop-self
decreases-loop-self l = l.self-inside.count
