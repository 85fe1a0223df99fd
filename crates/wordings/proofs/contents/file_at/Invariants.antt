use Rattle.std.proofs.Common.{◌≡◌, length, map}
use Rattle.std.specs.Prelude.{slice_get}
use Rattle.wordings.specs.Orders.{files}
use Rattle.wordings.specs.Values.{said}
use Rattle.wordings.proofs.contents.file_at.Given as goal

abbrev pub invariant-loop-rest : goal.invariant-loop-rest
invariant-loop-rest l = record {
  rest : slice_get (files (map said l.rest)) l.before ≡ slice_get (files (map said l.parts)) l.place;
}

abbrev pub decreases-loop-rest : goal.decreases-loop-rest
decreases-loop-rest l = length l.rest
