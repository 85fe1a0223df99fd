use Rattle.fit.proofs.LawLemmas.{trace_above, trace_below, wide_initial, narrow_initial}
use Rattle.fit.proofs.laws.traces_show_alike.Goals as goal

pub returns-clause-up : goal.returns-clause-up
returns-clause-up c = λ wide narrow layout state inputs frames fit fits given trace. trace_above wide narrow layout fit state inputs frames fits given trace

pub returns-clause-down : goal.returns-clause-down
returns-clause-down c = λ wide narrow layout state below inputs given frames fit makes inputs_made trace. trace_below wide narrow layout fit state below inputs given frames makes.1 makes.0 inputs_made trace

pub returns-clause-begins_up : goal.returns-clause-begins_up
returns-clause-begins_up c = λ wide narrow layout state fit initial. wide_initial wide narrow layout fit state initial

pub returns-clause-begins_down : goal.returns-clause-begins_down
returns-clause-begins_down c = λ wide narrow layout state below fit makes inits. narrow_initial wide narrow layout fit state below makes.1 makes.0 inits
