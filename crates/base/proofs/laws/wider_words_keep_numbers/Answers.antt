use Rattle.base.proofs.ValueLaws.{sext_keeps}
use Rattle.base.proofs.laws.wider_words_keep_numbers.Goals as goal

pub returns-clause-sext : goal.returns-clause-sext
returns-clause-sext c = sext_keeps
