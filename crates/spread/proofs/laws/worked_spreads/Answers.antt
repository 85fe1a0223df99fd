use Rattle.std.proofs.Common.{refl}
use Rattle.std.specs.Fmt.{digits}
use Rattle.base.specs.Decimals.{is_decimal, capped_value, number_of}
use Rattle.witness.specs.Readings.{next_line}
use Rattle.witness.specs.Admits.{claims_at, value_of, assignment_at, admit}
use Rattle.spread.specs.Spread.{spread_text}
use Rattle.spread.proofs.laws.worked_spreads.Goals as goal

pub returns-clause-pieces : goal.returns-clause-pieces
unfolding digits spread_text next_line admit claims_at assignment_at value_of number_of capped_value is_decimal
returns-clause-pieces c = refl

pub returns-clause-faulty : goal.returns-clause-faulty
unfolding digits spread_text next_line admit claims_at assignment_at value_of number_of capped_value is_decimal
returns-clause-faulty c = refl

pub returns-clause-short : goal.returns-clause-short
unfolding digits spread_text next_line admit claims_at assignment_at value_of number_of capped_value is_decimal
returns-clause-short c = refl

pub returns-clause-no_claim : goal.returns-clause-no_claim
unfolding digits spread_text next_line admit claims_at assignment_at value_of number_of capped_value is_decimal
returns-clause-no_claim c = refl
