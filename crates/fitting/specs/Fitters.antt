-- What a fitter keeps: the widths of sorts, and the nodes of words.
use Rattle.std.specs.Prelude.{ℕ, nat_eq, List, [], take, drop, Option, Some, None}
use Rattle.std.specs.HashMap.{get}
use Rattle.pieces.specs.declared.node.Node.{Node}
use Rattle.fitting.specs.declared.words.Span.{Span}
use Rattle.fitting.specs.declared.words.Words.{Words}

-- the nodes of a span of a list
abbrev pub nodes_in : List Node → Option Span → List Node
nodes_in nodes None = []
nodes_in nodes (Some s) = take s.count (drop s.start nodes)

-- the nodes of a word by its id, the lowest first, and none where there is no such word
abbrev pub word_at : Words → ℕ → List Node
word_at w id = nodes_in w.nodes.items (get nat_eq w.spans id)
