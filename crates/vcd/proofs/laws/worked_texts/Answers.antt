use Rattle.std.specs.Fmt.{digits}
use Rattle.base.specs.Decimals.{is_decimal, capped_value, number_of}
use Rattle.witness.specs.Readings.{next_line, reading}
use Rattle.witness.specs.Admits.{claims_at, value_of, assignment_at, state_assignment_at, admit}
use Rattle.vcd.proofs.WorkedLemmas.{toggles_dump, cut_dump, no_dump, follows_dump}
use Rattle.vcd.proofs.laws.worked_texts.Goals as goal

pub returns : goal.returns
unfolding digits reading next_line admit claims_at assignment_at state_assignment_at value_of number_of capped_value is_decimal
returns c = record { toggles = toggles_dump; cut = cut_dump; no_claim = no_dump; follows = follows_dump }
