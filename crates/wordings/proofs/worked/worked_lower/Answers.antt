use Rattle.std.proofs.Common.{◌≡◌, Some, true, false, refl, sym, ap}
use Rattle.wordings.proofs.worked.worked_lower.Goals as goal

pub returns-clause-says : goal.returns-clause-says
returns-clause-says c = λ first output is_first is_output. record {
  takes = record { known = refl; once = refl; count = refl; one_form = refl };
  task = refl;
  named = refl;
  as_json = refl;
  asked = refl;
  form = refl;
  first = ap (λ name. Some name) (sym is_first);
  second = refl;
  third = refl;
  input = refl;
  output = ap (λ name. Some name) is_output;
  progress = refl;
}

pub returns-clause-none : goal.returns-clause-none
returns-clause-none c = λ o s. let bad : true ≡ false = s.takes.one_form in absurd cc

pub returns-clause-fitted : goal.returns-clause-fitted
returns-clause-fitted c = λ first is_first. record {
  takes = record { known = refl; once = refl; count = refl; one_form = refl };
  task = refl;
  named = refl;
  as_json = refl;
  asked = refl;
  form = refl;
  first = ap (λ name. Some name) (sym is_first);
  second = refl;
  third = refl;
  input = refl;
  output = refl;
  progress = refl;
}

pub returns-clause-fitted_for_engines : goal.returns-clause-fitted_for_engines
returns-clause-fitted_for_engines c = λ first is_first. record {
  takes = record { known = refl; once = refl; count = refl; one_form = refl };
  task = refl;
  named = refl;
  as_json = refl;
  asked = refl;
  form = refl;
  first = ap (λ name. Some name) (sym is_first);
  second = refl;
  third = refl;
  input = refl;
  output = refl;
  progress = refl;
}
