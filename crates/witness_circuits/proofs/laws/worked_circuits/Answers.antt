use Rattle.std.proofs.Common.{refl, rules, arith}
use Rattle.aiger.specs.Circuit.{HasFew, HasDefined, net}
use Rattle.witness_circuits.specs.Worked.{stays_off, watcher, output_watcher}
use Rattle.witness_circuits.proofs.WorkedLemmas.{plain_circuit}
use Rattle.witness_circuits.proofs.laws.worked_circuits.Goals as goal

pub returns-clause-stays_off : goal.returns-clause-stays_off
returns-clause-stays_off c = let few : HasFew stays_off = search rules in let defined : HasDefined (net stays_off) stays_off = search rules in plain_circuit stays_off (omega arith) few tt defined refl

pub returns-clause-watcher : goal.returns-clause-watcher
returns-clause-watcher c = let few : HasFew watcher = search rules in let defined : HasDefined (net watcher) watcher = search rules in plain_circuit watcher (omega arith) few tt defined refl

pub returns-clause-output_watcher : goal.returns-clause-output_watcher
returns-clause-output_watcher c =
    let few : HasFew output_watcher = search rules in let defined : HasDefined (net output_watcher) output_watcher = search rules in plain_circuit output_watcher (omega arith) few tt defined refl
