use Rattle.std.proofs.Common.{List, length, get_or, ap, ◌∙◌, arith}
use Rattle.base.proofs.PenLemmas.{write_more}
use Rattle.btor2.specs.declared.item.Item.{Item}
use Rattle.runs.proofs.StateLemmas.{item_at}
use Rattle.vcd.specs.Dumps.{var_line}
use Rattle.vcd.specs.Signals.{is_in}
use Rattle.vcd.proofs.NameLemmas.{number_at, counted_more, few_more}
use Rattle.vcd.proofs.PartLemmas.{lines_at}
use Rattle.vcd.proofs.declarations.put_vars.Goals as goal

pub put_shown-number-requires-clause-well_formed : goal.put_shown-number-requires-clause-well_formed
put_shown-number-requires-clause-well_formed g c = c.items-items.ensures.well_formed

pub put_shown-number-requires-clause-at : goal.put_shown-number-requires-clause-at
put_shown-number-requires-clause-at g c = item_at c.args.model.now c.items-items.result.now c.loop-place.place c.index-items-place.result c.items-items.ensures.items c.loop-place-test.true c.index-items-place.is

pub put_shown-number-requires-clause-number : goal.put_shown-number-requires-clause-number
put_shown-number-requires-clause-number g c =
    let x = c.index-items-place.result in
    number_at c.args.shown c.args.model.now c.args.scope c.loop-place.place c.loop-place.number x c.items-items.ensures.well_formed
    (item_at c.args.model.now c.items-items.result.now c.loop-place.place x c.items-items.ensures.items c.loop-place-test.true c.index-items-place.is) c.loop-place.invariant.number

pub loop-place-preserved : goal.loop-place-preserved
loop-place-preserved g c =
    let x = c.index-items-place.result in
    let at = item_at c.args.model.now c.items-items.result.now c.loop-place.place x c.items-items.ensures.items c.loop-place-test.true c.index-items-place.is in
    record {
      puts = write_more c.loop-place.invariant.puts c.put_shown-number.ensures.puts
          (lines_at (is_in c.args.shown c.args.scope) (var_line c.args.shown c.args.model.now c.args.scope) c.loop-place.place c.args.model.now x x (omega (arith, ap length c.items-items.ensures.items, c.loop-place-test.true)) (c.index-items-place.is ∙ ap (λ (l : List Item). get_or l c.loop-place.place x) c.items-items.ensures.items));
      number = counted_more (is_in c.args.shown c.args.scope) c.args.model.now c.loop-place.place c.loop-place.number c.put_shown-number.result x at c.loop-place.invariant.number c.put_shown-number.ensures.number;
      few = few_more (is_in c.args.shown c.args.scope) c.loop-place.place c.loop-place.number c.put_shown-number.result x c.loop-place.invariant.few c.put_shown-number.ensures.number;
    }
