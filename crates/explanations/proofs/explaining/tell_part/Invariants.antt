use Rattle.std.proofs.Common.{◌≡◌, length, ◌++◌}
use Rattle.std.specs.Prelude.{flat_map}
use Rattle.std.specs.String.{string_bytes}
use Rattle.explanations.specs.Explanations.{search_of, told_part, told_row}
use Rattle.explanations.proofs.explaining.tell_part.Given as goal

abbrev pub invariant-loop-rest : goal.invariant-loop-rest
invariant-loop-rest l = string_bytes l.text ++ flat_map (told_row (search_of l.sought) l.fitting l.part.title.now) l.rest ≡ string_bytes l.initial.text ++ told_part (search_of l.sought) l.fitting l.part

abbrev pub decreases-loop-rest : goal.decreases-loop-rest
decreases-loop-rest l = length l.rest
