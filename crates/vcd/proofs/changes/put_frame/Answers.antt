use Rattle.std.proofs.Common.{◌∷◌, [], ◌++◌, List, ℕ, ap}
use Rattle.base.proofs.PenLemmas.{writes_then}
use Rattle.vcd.specs.Dumps.{moment}
use Rattle.vcd.proofs.changes.put_frame.Goals as goal

pub returns-clause-puts : goal.returns-clause-puts
returns-clause-puts g c =
    let words = c.put_changes.ensures.puts in
    record {
      put = _;
      writes = writes_then c.put_moment.ensures words.writes;
      is = λ items f shows. ap (λ (l : List ℕ). (moment c.args.number ++ 10 ∷ []) ++ l) (words.is items f shows);
    }
