use Rattle.std.proofs.Common.{◌≡◌, Option, Some, None, true, false, refl, sym, ap}
use Rattle.invocation.specs.declared.tasks.Task.{Task}
use Rattle.wordings.proofs.worked.worked_judge.Goals as goal

pub returns-clause-says : goal.returns-clause-says
returns-clause-says c = λ list is. record {
  takes = record { known = refl; once = refl; count = refl; one_form = refl };
  judge = refl;
  list = ap (λ name. Some name) (sym is);
  as_json = refl;
}

pub returns-clause-no_order : goal.returns-clause-no_order
returns-clause-no_order c = λ o s. let none : Option Task = None in let bad : none ≡ Some o.task = s.task in absurd cc

pub returns-clause-none : goal.returns-clause-none
returns-clause-none c = λ l s. let bad : false ≡ true = s.takes.known in absurd cc
