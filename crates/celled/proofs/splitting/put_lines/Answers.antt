use Rattle.std.proofs.Common.{ℕ, ◌≡◌, length, ap, sym, subst, ◌∙◌, arith}
use Rattle.std.proofs.lemmas.List.{length-map}
use Rattle.btor2.specs.Items.{is_input, is_state}
use Rattle.wide.specs.Lines.{item_of}
use Rattle.celled.specs.Spots.{spots_of}
use Rattle.celled.specs.Steps.{IsSplitTo}
use Rattle.celled.proofs.SplitLemmas.{around, before_is, accepted_at, few_before, sizes_fit, split_begins, split_step, split_ends}
use Rattle.celled.proofs.splitting.put_lines.Goals as goal

pub loop-place-init : goal.loop-place-init
loop-place-init c = split_begins (spots_of c.args.table.now) c.args.wide.now c.args.maker.now c.args.inputs.now c.args.states.now c.requires.empty

pub put_at-requires : goal.put_at-requires
put_at-requires c =
    let wide = c.args.wide.now in
    let place = c.loop-place.place in
    let x = item_of c.line_at-line.result.now in (
      c.loop-place.invariant.split,
      (
        accepted_at wide place x c.lines-place-end.ensures.well_formed c.line_at-line.ensures,
        (
          before_is wide place x c.line_at-line.ensures,
          (
            around wide place x c.line_at-line.ensures,
            λ size own. sizes_fit wide c.args.inputs.now c.args.states.now place c.loop-place.seen.inputs c.loop-place.seen.states x size c.lines-place-end.ensures.well_formed c.requires.inputs c.requires.states c.line_at-line.ensures
                c.loop-place.invariant.inputs_before c.loop-place.invariant.states_before own,
          ),
        ),
      ),
    )

pub seen_by-seen-requires-clause-inputs : goal.seen_by-seen-requires-clause-inputs
seen_by-seen-requires-clause-inputs c =
    few_before (λ y. is_input y.body) c.args.wide.now c.loop-place.place c.loop-place.seen.inputs (item_of c.line_at-line.result.now) c.lines-place-end.ensures.well_formed c.line_at-line.ensures c.loop-place.invariant.inputs_before

pub seen_by-seen-requires-clause-states : goal.seen_by-seen-requires-clause-states
seen_by-seen-requires-clause-states c =
    few_before (λ y. is_state y.body) c.args.wide.now c.loop-place.place c.loop-place.seen.states (item_of c.line_at-line.result.now) c.lines-place-end.ensures.well_formed c.line_at-line.ensures c.loop-place.invariant.states_before

pub loop-place-preserved : goal.loop-place-preserved
loop-place-preserved c =
    let x = item_of c.line_at-line.result.now in
    let put = c.in_ok-put_at.ensures in
    subst (λ (n : ℕ). IsSplitTo c.args.wide.now c.args.inputs.now c.args.states.now n c.seen_by-seen.result.inputs c.seen_by-seen.result.states (spots_of c.put_at.new.table) c.put_at.new.maker) (omega arith)
    (split_step c.args.wide.now c.args.inputs.now c.args.states.now c.loop-place.place c.loop-place.seen.inputs c.loop-place.seen.states c.seen_by-seen.result.inputs c.seen_by-seen.result.states put.0 x (spots_of c.loop-place.table) (spots_of c.put_at.new.table)
    c.loop-place.maker c.put_at.new.maker c.requires.inputs c.requires.states c.line_at-line.ensures c.loop-place.invariant put.1 c.seen_by-seen.ensures put.2)

pub returns : goal.returns
returns c =
    let items : length c.lines-place-end.result.now ≡ length c.args.wide.now = sym (length-map c.lines-place-end.result.now item_of) ∙ ap length c.lines-place-end.ensures.items in
    let no_less = c.loop-place-test.false in
    let no_more = c.loop-place.auto.place-end in
    split_ends c.args.wide.now c.args.inputs.now c.args.states.now c.loop-place.place c.loop-place.seen.inputs c.loop-place.seen.states (spots_of c.loop-place.table) c.loop-place.maker c.requires.inputs c.requires.states (omega (arith, items, no_less, no_more)) c.loop-place.invariant
