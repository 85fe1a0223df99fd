use Rattle.std.proofs.Common.{◌∷◌, [], None, Some, refl}
use Rattle.std.specs.Fmt.{digits}
use Rattle.base.specs.Decimals.{is_decimal, capped_value, number_of}
use Rattle.witness.specs.Readings.{next_line, reading}
use Rattle.witness.specs.Admits.{claims_at, value_of, assignment_at, state_assignment_at, admit}
use Rattle.rises.proofs.WorkedLemmas.{either_rises, three}
use Rattle.rises.proofs.laws.worked_claims.Goals as goal

pub returns : goal.returns
unfolding digits reading next_line admit claims_at assignment_at state_assignment_at value_of number_of capped_value is_decimal
returns c =
    record {
      all = λ fs t. let e = either_rises (0 ∷ 1 ∷ 2 ∷ []) fs t in three _ _ _ (Some 1) (Some 0) None e.first e.second e.third;
      first = λ fs t. let e = either_rises (0 ∷ []) fs t in three _ None None (Some 1) None None e.first refl refl;
      second = λ fs t. let e = either_rises (2 ∷ 1 ∷ []) fs t in three None _ _ None (Some 0) None refl e.second e.third;
    }
