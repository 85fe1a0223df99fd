use Rattle.std.proofs.Common.{◌≡◌, map, take}
use Rattle.btor2.specs.Lists.{of_kind}
use Rattle.runs.specs.Frames.{has_value}
use Rattle.runs.specs.Nodes.{standing_word}
use Rattle.runs.proofs.resolving.standing_words.Given as goal

abbrev pub invariant-loop-place : goal.invariant-loop-place
invariant-loop-place l = l.words.items ≡ map (λ x. standing_word l.model x.body) (of_kind has_value (take l.place l.items))
