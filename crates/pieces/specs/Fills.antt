-- What stands in the places of a word that no bits of it take: zeros, or a node of one bit in each.
use Rattle.std.specs.Prelude.{ℕ, Option, Some, None}
use Rattle.base.specs.Operator.{ones, ite_value}
use Rattle.btor2.specs.Trace.{Frame}
use Rattle.pieces.specs.declared.node.Node.{Node}

abbrev pub filled_word : Frame → Option Node → ℕ → ℕ
filled_word g None n = 0
filled_word g (Some b) n = ite_value (g b.id) (ones n) 0
