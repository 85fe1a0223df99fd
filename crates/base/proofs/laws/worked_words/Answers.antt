use Rattle.std.proofs.Common.{refl}
use Rattle.std.specs.Int.RustNames.{count_ones}
use Rattle.base.proofs.laws.worked_words.Goals as goal

pub returns-clause-redxor_7 : goal.returns-clause-redxor_7
unfolding count_ones
returns-clause-redxor_7 c = refl

pub returns-clause-redxor_255 : goal.returns-clause-redxor_255
unfolding count_ones
returns-clause-redxor_255 c = refl
