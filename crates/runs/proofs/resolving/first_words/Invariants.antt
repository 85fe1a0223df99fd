use Rattle.std.proofs.Common.{◌≡◌, map, take}
use Rattle.btor2.specs.Items.{is_state}
use Rattle.runs.specs.Frames.{ids_of}
use Rattle.runs.specs.Run.{first_word}
use Rattle.runs.proofs.resolving.first_words.Given as goal

abbrev pub invariant-loop-k : goal.invariant-loop-k
invariant-loop-k l = l.words.items ≡ map (first_word l.model) (take l.k (ids_of is_state l.model))
