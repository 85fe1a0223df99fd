use Rattle.full.proofs.PlainLemmas.{plain_is_model}
use Rattle.full.proofs.PlainLaw.{plain_word, wide_words_fit, profile_is_wide, written_as_itself, meaning_up, meaning_down}
use Rattle.full.proofs.GivesLemmas.{word_by_form}
use Rattle.full.proofs.laws.items_as_lines.Goals as goal

pub returns-clause-model : goal.returns-clause-model
returns-clause-model c = plain_is_model

pub returns-clause-words : goal.returns-clause-words
returns-clause-words c = plain_word

pub returns-clause-fit : goal.returns-clause-fit
returns-clause-fit c = wide_words_fit

pub returns-clause-profile : goal.returns-clause-profile
returns-clause-profile c = profile_is_wide

pub returns-clause-written : goal.returns-clause-written
returns-clause-written c = written_as_itself

pub returns-clause-up : goal.returns-clause-up
returns-clause-up c = meaning_up

pub returns-clause-down : goal.returns-clause-down
returns-clause-down c = meaning_down

pub returns-clause-by_form : goal.returns-clause-by_form
returns-clause-by_form c = word_by_form
