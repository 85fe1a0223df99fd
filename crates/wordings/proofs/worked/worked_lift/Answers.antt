use Rattle.std.proofs.Common.{◌≡◌, Some, true, false, refl, sym, ap}
use Rattle.wordings.proofs.worked.worked_lift.Goals as goal

pub returns-clause-says : goal.returns-clause-says
returns-clause-says c = λ first second is_first is_second. record {
  takes = record { known = refl; once = refl; count = refl; one_form = refl };
  task = refl;
  named = refl;
  as_json = refl;
  asked = refl;
  form = refl;
  first = ap (λ name. Some name) (sym is_first);
  second = ap (λ name. Some name) is_second;
  third = refl;
  input = refl;
  output = refl;
  progress = refl;
}

pub returns-clause-none : goal.returns-clause-none
returns-clause-none c = λ o s. let bad : false ≡ true = s.takes.known in absurd cc

pub returns-clause-fitted : goal.returns-clause-fitted
returns-clause-fitted c = λ first second is_first is_second. record {
  takes = record { known = refl; once = refl; count = refl; one_form = refl };
  task = refl;
  named = refl;
  as_json = refl;
  asked = refl;
  form = refl;
  first = ap (λ name. Some name) (sym is_first);
  second = ap (λ name. Some name) is_second;
  third = refl;
  input = refl;
  output = refl;
  progress = refl;
}

pub returns-clause-fitted_found : goal.returns-clause-fitted_found
returns-clause-fitted_found c = λ first second is_first is_second. record {
  takes = record { known = refl; once = refl; count = refl; one_form = refl };
  task = refl;
  named = refl;
  as_json = refl;
  asked = refl;
  form = refl;
  first = ap (λ name. Some name) (sym is_first);
  second = ap (λ name. Some name) is_second;
  third = refl;
  input = refl;
  output = refl;
  progress = refl;
}
