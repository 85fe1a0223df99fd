use Rattle.std.proofs.Common.{refl}
use Rattle.std.specs.Fmt.{digits}
use Rattle.base.specs.Decimals.{is_decimal, capped_value, number_of}
use Rattle.witness.specs.Readings.{next_line, reading}
use Rattle.witness.specs.Admits.{claims_at, value_of, assignment_at, state_assignment_at, admit}
use Rattle.spread.specs.Spread.{spread_text}
use Rattle.unfit.specs.Unfitted.{unfit_text_with}
use Rattle.fulljudge.specs.Lines.{word_line}
use Rattle.fullunfit.proofs.laws.worked_texts.Goals as goal

pub returns-clause-named : goal.returns-clause-named
unfolding digits spread_text unfit_text_with word_line reading next_line admit claims_at assignment_at state_assignment_at value_of number_of capped_value is_decimal
returns-clause-named c = refl

pub returns-clause-unnamed : goal.returns-clause-unnamed
unfolding digits spread_text unfit_text_with word_line reading next_line admit claims_at assignment_at state_assignment_at value_of number_of capped_value is_decimal
returns-clause-unnamed c = refl

pub returns-clause-faulty : goal.returns-clause-faulty
unfolding digits spread_text unfit_text_with word_line reading next_line admit claims_at assignment_at state_assignment_at value_of number_of capped_value is_decimal
returns-clause-faulty c = refl

pub returns-clause-no_claim : goal.returns-clause-no_claim
unfolding digits spread_text unfit_text_with word_line reading next_line admit claims_at assignment_at state_assignment_at value_of number_of capped_value is_decimal
returns-clause-no_claim c = refl

pub returns-clause-begun : goal.returns-clause-begun
unfolding digits spread_text unfit_text_with word_line reading next_line admit claims_at assignment_at state_assignment_at value_of number_of capped_value is_decimal
returns-clause-begun c = refl
