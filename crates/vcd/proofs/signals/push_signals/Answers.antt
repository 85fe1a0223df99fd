use Rattle.std.proofs.Common.{◌≤◌, ◌++◌, List, length, map, filter, ap, ◌∙◌, arith, rules}
use Rattle.std.proofs.lemmas.List.{take_all}
use Rattle.btor2.specs.declared.item.Item.{Item}
use Rattle.runs.proofs.StateLemmas.{item_at}
use Rattle.vcd.specs.Signals.{is_in}
use Rattle.vcd.specs.Stands.{signal_of}
use Rattle.vcd.proofs.SignalLemmas.{filter_more}
use Rattle.vcd.proofs.signals.push_signals.Goals as goal

pub push_signal-requires-clause-well_formed : goal.push_signal-requires-clause-well_formed
push_signal-requires-clause-well_formed c = c.items-items.ensures.well_formed

pub push_signal-requires-clause-at : goal.push_signal-requires-clause-at
push_signal-requires-clause-at c = item_at c.args.model.now c.items-items.result.now c.loop-place.place c.index-items-place.result c.items-items.ensures.items c.loop-place-test.true c.index-items-place.is

pub loop-place-preserved : goal.loop-place-preserved
loop-place-preserved c =
    let x = c.index-items-place.result in
    record {
      pushed = filter_more (is_in c.args.shown c.args.scope) (signal_of c.args.model.now) c.loop-place.place c.items-items.result.now x x _ _ c.loop-place-test.true c.index-items-place.is c.in_ok-push_signal.ensures.pushed _ c.loop-place.invariant.pushed;
      kept = search rules;
    }

pub returns-clause-pushed : goal.returns-clause-pushed
returns-clause-pushed c =
    let all : length c.items-items.result.now ≤ c.loop-place.place = omega arith in
    c.loop-place.invariant.pushed ∙ ap (λ (l : List Item). c.args.signals.now.items ++ map (signal_of c.args.model.now) (filter (is_in c.args.shown c.args.scope) l)) (take_all c.loop-place.place c.items-items.result.now all ∙ c.items-items.ensures.items)
