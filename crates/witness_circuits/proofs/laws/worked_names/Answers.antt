use Rattle.std.proofs.Common.{refl}
use Rattle.base.specs.Decimals.{number_of, is_decimal, capped_value}
use Rattle.witness_circuits.proofs.laws.worked_names.Goals as goal

pub returns-clause-shared : goal.returns-clause-shared
unfolding number_of is_decimal capped_value
returns-clause-shared c = refl

pub returns-clause-zero : goal.returns-clause-zero
unfolding number_of is_decimal capped_value
returns-clause-zero c = refl

pub returns-clause-padded : goal.returns-clause-padded
unfolding number_of is_decimal capped_value
returns-clause-padded c = refl

pub returns-clause-bare : goal.returns-clause-bare
returns-clause-bare c = refl

pub returns-clause-other : goal.returns-clause-other
returns-clause-other c = refl

pub returns-clause-named : goal.returns-clause-named
unfolding number_of is_decimal capped_value
returns-clause-named c = refl

pub returns-clause-renumbered : goal.returns-clause-renumbered
unfolding number_of is_decimal capped_value
returns-clause-renumbered c = refl
