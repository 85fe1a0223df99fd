use Rattle.std.proofs.Common.{◌≡◌, take}
use Rattle.witness.specs.WordValues.{widths_by}
use Rattle.witness.proofs.word_play.widths_at.Given as goal

-- those of the places before
abbrev pub invariant-loop-place : goal.invariant-loop-place
invariant-loop-place l = l.widths.items ≡ widths_by l.model (take l.place-index l.places)
