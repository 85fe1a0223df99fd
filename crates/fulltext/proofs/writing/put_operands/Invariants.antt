use Rattle.std.proofs.Common.{map, drop}
use Rattle.base.proofs.PenLemmas.{Writing}
use Rattle.btor2text.specs.Writing.{behind_spaces}
use Rattle.full.specs.Lines.{with_minuses}
use Rattle.fulltext.specs.Spelling.{operand_token}
use Rattle.fulltext.proofs.writing.put_operands.Given as goal

abbrev pub invariant-loop-node : goal.invariant-loop-node
invariant-loop-node g l = Writing g.K.Sink.written g.K.Sink.failures l.initial.sink l.sink l.initial.pen l.pen (behind_spaces (map operand_token (with_minuses l.nodes l.minuses))) (behind_spaces (map operand_token (with_minuses (drop l.node-index l.nodes) l.signs)))
