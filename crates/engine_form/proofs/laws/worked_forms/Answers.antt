use Rattle.std.proofs.Common.{◌≡◌, true, false}
use Rattle.engine_form.proofs.WorkedLemmas.{toggler_formed, keeper_formed, guarded_formed, second_formed, stays_negated_none, begins_with_0_none, guarded_alone_none, first_none}
use Rattle.engine_form.proofs.laws.worked_forms.Goals as goal

pub returns-clause-toggler : goal.returns-clause-toggler
returns-clause-toggler c = toggler_formed c.worked_circuits.ensures.toggler.0 c.worked_circuits.ensures.toggler.1

pub returns-clause-stays_negated : goal.returns-clause-stays_negated
returns-clause-stays_negated c = stays_negated_none

pub returns-clause-keeper : goal.returns-clause-keeper
returns-clause-keeper c = keeper_formed c.worked_circuits.ensures.keeper.0 c.worked_circuits.ensures.keeper.1

pub returns-clause-begins_with_0 : goal.returns-clause-begins_with_0
returns-clause-begins_with_0 c = begins_with_0_none

pub returns-clause-guarded : goal.returns-clause-guarded
returns-clause-guarded c = guarded_formed c.worked_circuits.ensures.guarded.0 c.worked_circuits.ensures.guarded.1

pub returns-clause-guarded_alone : goal.returns-clause-guarded_alone
returns-clause-guarded_alone c = guarded_alone_none

pub returns-clause-second : goal.returns-clause-second
returns-clause-second c = second_formed c.worked_circuits.ensures.either.0 c.worked_circuits.ensures.either.1

pub returns-clause-not_the_first : goal.returns-clause-not_the_first
returns-clause-not_the_first c = first_none

pub returns-clause-not_there : goal.returns-clause-not_there
returns-clause-not_there c d f = absurd (let e : false ≡ true = f.has_bad in cc)
