use Rattle.std.proofs.Common.{refl}
use Rattle.std.specs.Fmt.{digits}
use Rattle.base.specs.Decimals.{is_decimal, capped_value, number_of}
use Rattle.witness.specs.Readings.{next_line, reading}
use Rattle.witness.specs.Admits.{claims_at, value_of, assignment_at, state_assignment_at, admit}
use Rattle.spread.specs.Spread.{spread_text}
use Rattle.unfit.specs.Unfitted.{unfit_text_with}
use Rattle.fulljudge.specs.Lines.{word_line}
use Rattle.fullunfit.proofs.laws.worked_titles.Goals as goal

pub returns-clause-fronts : goal.returns-clause-fronts
unfolding digits spread_text unfit_text_with word_line reading next_line admit claims_at assignment_at state_assignment_at value_of number_of capped_value is_decimal
returns-clause-fronts c = refl

pub returns-clause-one_cell : goal.returns-clause-one_cell
unfolding digits spread_text unfit_text_with word_line reading next_line admit claims_at assignment_at state_assignment_at value_of number_of capped_value is_decimal
returns-clause-one_cell c = refl

pub returns-clause-symbols : goal.returns-clause-symbols
unfolding digits spread_text unfit_text_with word_line reading next_line admit claims_at assignment_at state_assignment_at value_of number_of capped_value is_decimal
returns-clause-symbols c = refl
