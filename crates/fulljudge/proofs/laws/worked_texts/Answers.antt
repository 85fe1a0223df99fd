use Rattle.std.proofs.Common.{refl}
use Rattle.std.specs.Fmt.{digits}
use Rattle.base.specs.Decimals.{is_decimal, capped_value, number_of}
use Rattle.fulljudge.specs.Lines.{word_line}
use Rattle.fulljudge.proofs.laws.worked_texts.Goals as goal

pub returns-clause-parts : goal.returns-clause-parts
unfolding digits word_line number_of capped_value is_decimal
returns-clause-parts c = refl

pub returns-clause-none : goal.returns-clause-none
unfolding digits word_line number_of capped_value is_decimal
returns-clause-none c = refl
