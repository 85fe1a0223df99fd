use Rattle.std.proofs.Common.{◌≡◌, []}
use Rattle.aiger.specs.Circuit.{rank}
use Rattle.engine_form.specs.Moves.{unnamed, NamesMoved}
use Rattle.engine_form.proofs.moves.move_section.Given as goal

abbrev pub invariant-loop-position : goal.invariant-loop-position
invariant-loop-position l =
    record {
      rest : record l.made { names = [] } ≡ unnamed l.circuit;
      names : NamesMoved l.circuit l.made (rank l.section) l.position;
    }
