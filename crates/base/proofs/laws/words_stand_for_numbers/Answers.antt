use Rattle.base.proofs.SignedLaws.{signed_fits, wrapped-signed, wrapped_stands, wrapped_below, wrapped_again}
use Rattle.base.proofs.laws.words_stand_for_numbers.Goals as goal

pub returns-clause-fits : goal.returns-clause-fits
returns-clause-fits c = signed_fits

pub returns-clause-back : goal.returns-clause-back
returns-clause-back c = wrapped-signed

pub returns-clause-forth : goal.returns-clause-forth
returns-clause-forth c = wrapped_stands

pub returns-clause-word : goal.returns-clause-word
returns-clause-word c = wrapped_below

pub returns-clause-again : goal.returns-clause-again
returns-clause-again c = wrapped_again
