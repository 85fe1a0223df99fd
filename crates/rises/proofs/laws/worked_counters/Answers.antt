use Rattle.std.proofs.Common.{◌∷◌, [], refl, ap}
use Rattle.std.specs.Fmt.{digits}
use Rattle.base.specs.Decimals.{is_decimal, capped_value, number_of}
use Rattle.witness.specs.Readings.{next_line, reading}
use Rattle.witness.specs.Admits.{claims_at, value_of, assignment_at, state_assignment_at, admit}
use Rattle.rises.proofs.WorkedLemmas.{counter_rises, toggler_rises, toggler_cut}
use Rattle.rises.proofs.laws.worked_counters.Goals as goal

pub returns : goal.returns
unfolding digits reading next_line admit claims_at assignment_at state_assignment_at value_of number_of capped_value is_decimal
returns c =
    record {
      counts = λ fs t. ap (λ o. o ∷ []) (counter_rises fs t);
      toggles = λ fs t. ap (λ o. o ∷ []) (toggler_rises fs t);
      cut = λ fs t. ap (λ o. o ∷ []) (toggler_cut fs t);
      no_claim = λ fs t. refl;
    }
