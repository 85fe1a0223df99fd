use Rattle.std.proofs.Common.{◌≡◌, length, ◌++◌}
use Rattle.std.specs.Prelude.{flat_map}
use Rattle.std.specs.String.{string_bytes}
use Rattle.explanations.specs.Explanations.{search_of, told_parts, told_part}
use Rattle.explanations.proofs.explaining.tell_parts.Given as goal

abbrev pub invariant-loop-rest : goal.invariant-loop-rest
invariant-loop-rest l = string_bytes l.text ++ flat_map (told_part (search_of l.sought) l.fitting) l.rest ≡ string_bytes l.initial.text ++ told_parts (search_of l.sought) l.fitting l.parts

abbrev pub decreases-loop-rest : goal.decreases-loop-rest
decreases-loop-rest l = length l.rest
