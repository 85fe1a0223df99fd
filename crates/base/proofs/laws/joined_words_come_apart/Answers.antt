use Rattle.base.proofs.ValueLaws.{high_slice, low_slice}
use Rattle.base.proofs.laws.joined_words_come_apart.Goals as goal

pub returns-clause-high : goal.returns-clause-high
returns-clause-high c = high_slice

pub returns-clause-low : goal.returns-clause-low
returns-clause-low c = low_slice
