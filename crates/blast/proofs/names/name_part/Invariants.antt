use Rattle.std.proofs.Common.{◌≡◌, ◌+◌}
use Rattle.blast.specs.Sections.{names_given}
use Rattle.blast.proofs.KindBlocks.{reached}
use Rattle.blast.proofs.NameLemmas.{WithItems}
use Rattle.blast.proofs.names.name_part.Given as goal

abbrev pub invariant-loop-k : goal.invariant-loop-k
invariant-loop-k l =
    record {
      next : l.next ≡ l.first + reached (names_given l.model l.leaves) l.model l.list l.k;
      names : WithItems l.model l.leaves l.list l.first l.fn.circuit l.circuit l.k;
    }
