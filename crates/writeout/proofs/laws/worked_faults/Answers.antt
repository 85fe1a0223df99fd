-- The line of fairness stands first.
use Rattle.std.proofs.Common.{[], None, refl}
use Rattle.btor2.specs.declared.item.Body.TheVariants as body
use Rattle.full.specs.Lines.{form}
use Rattle.writeout.specs.Worked.{begun}
use Rattle.writeout.proofs.laws.worked_faults.Goals as goal

pub returns-clause-fair : goal.returns-clause-fair
returns-clause-fair c = record {
  before = [];
  line = record { id = 1; symbol = None; says = form (body.Fair 1) [] };
  after = begun;
  is = refl;
  none = tt;
  kind = refl;
  id = refl;
}
