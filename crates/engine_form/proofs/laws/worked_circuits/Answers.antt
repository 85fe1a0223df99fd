use Rattle.std.proofs.Common.{refl, rules, arith}
use Rattle.aiger.specs.Net.{AreOrdered}
use Rattle.aiger.specs.Circuit.{HasFew, HasDefined, net}
use Rattle.engine_form.specs.Worked.{negated_toggler, toggler_form, keeper, keeper_form, guarded, guarded_form, either, second_form}
use Rattle.engine_form.proofs.WorkedLemmas.{plain_circuit}
use Rattle.engine_form.proofs.laws.worked_circuits.Goals as goal

pub returns-clause-toggler : goal.returns-clause-toggler
returns-clause-toggler c = (
  (let few : HasFew negated_toggler = search rules in let defined : HasDefined (net negated_toggler) negated_toggler = search rules in plain_circuit negated_toggler (omega arith) few tt defined refl),
  (let few : HasFew toggler_form = search rules in let defined : HasDefined (net toggler_form) toggler_form = search rules in plain_circuit toggler_form (omega arith) few tt defined refl),
)

pub returns-clause-keeper : goal.returns-clause-keeper
returns-clause-keeper c = (
  (let few : HasFew keeper = search rules in let defined : HasDefined (net keeper) keeper = search rules in plain_circuit keeper (omega arith) few tt defined refl),
  (let few : HasFew keeper_form = search rules in
      let defined : HasDefined (net keeper_form) keeper_form = search rules in
      let ordered : AreOrdered (net keeper_form) = search rules in
      plain_circuit keeper_form (omega arith) few ordered defined refl),
)

pub returns-clause-guarded : goal.returns-clause-guarded
returns-clause-guarded c = (
  (let few : HasFew guarded = search rules in let defined : HasDefined (net guarded) guarded = search rules in plain_circuit guarded (omega arith) few tt defined refl),
  (let few : HasFew guarded_form = search rules in
      let defined : HasDefined (net guarded_form) guarded_form = search rules in
      let ordered : AreOrdered (net guarded_form) = search rules in
      plain_circuit guarded_form (omega arith) few ordered defined refl),
)

pub returns-clause-either : goal.returns-clause-either
returns-clause-either c = (
  (let few : HasFew either = search rules in let defined : HasDefined (net either) either = search rules in plain_circuit either (omega arith) few tt defined refl),
  (let few : HasFew second_form = search rules in let defined : HasDefined (net second_form) second_form = search rules in plain_circuit second_form (omega arith) few tt defined refl),
)
