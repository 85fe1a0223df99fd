use Rattle.std.proofs.Common.{None, refl}
use Rattle.std.specs.List.{last_or}
use Rattle.std.specs.Fmt.{digits}
use Rattle.base.specs.Decimals.{is_decimal, capped_value, number_of}
use Rattle.witness.specs.Readings.{next_line, reading}
use Rattle.witness.specs.Admits.{claims_at, value_of, assignment_at, state_assignment_at, admit}
use Rattle.witness.proofs.WorkedLemmas.{first_word_told, second_word_told, no_word_told}
use Rattle.witness.proofs.laws.worked_last_words.Goals as goal

pub returns : goal.returns
unfolding digits reading next_line admit claims_at assignment_at state_assignment_at value_of number_of capped_value is_decimal
returns c = record { none = λ fs t. refl; first = first_word_told; last = second_word_told; no_node = λ fs. no_word_told (last_or None fs); given = λ fs. refl }
