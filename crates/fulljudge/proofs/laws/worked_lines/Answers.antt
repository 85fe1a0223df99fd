use Rattle.std.proofs.Common.{refl}
use Rattle.std.specs.Fmt.{digits}
use Rattle.base.specs.Decimals.{is_decimal, capped_value, number_of}
use Rattle.fulljudge.specs.Lines.{word_line}
use Rattle.fulljudge.proofs.laws.worked_lines.Goals as goal

pub returns-clause-word : goal.returns-clause-word
unfolding digits word_line number_of capped_value is_decimal
returns-clause-word c = refl

pub returns-clause-cell : goal.returns-clause-cell
unfolding digits word_line number_of capped_value is_decimal
returns-clause-cell c = refl

pub returns-clause-behind : goal.returns-clause-behind
unfolding digits word_line number_of capped_value is_decimal
returns-clause-behind c = refl

pub returns-clause-no_address : goal.returns-clause-no_address
unfolding digits word_line number_of capped_value is_decimal
returns-clause-no_address c = refl

pub returns-clause-short_address : goal.returns-clause-short_address
unfolding digits word_line number_of capped_value is_decimal
returns-clause-short_address c = refl

pub returns-clause-no_value : goal.returns-clause-no_value
unfolding digits word_line number_of capped_value is_decimal
returns-clause-no_value c = refl

pub returns-clause-no_array : goal.returns-clause-no_array
unfolding digits word_line number_of capped_value is_decimal
returns-clause-no_array c = refl
