use Rattle.std.proofs.Common.{◌≡◌, ◌+◌, ◌-◌, ◌++◌, take}
use Rattle.base.specs.Word.{bits}
use Rattle.vectors.specs.CircuitRuns.{IsRunOf}
use Rattle.vectors.proofs.circuits.set_word.Given as goal

abbrev pub invariant-loop-k : goal.invariant-loop-k
invariant-loop-k l =
    record {
      same : l.run.circuit ≡ l.fn.run.circuit;
      run : IsRunOf l.run.circuit l.run;
      inputs : take (l.first + l.k) l.run.inputs ++ bits (l.fn.width - l.k) l.left ≡ take l.first l.fn.run.inputs ++ bits l.fn.width l.fn.word;
    }
