use Rattle.std.proofs.Common.{◌≡◌, ◌<◌, length, get_or, ◌∙◌, arith}
use Rattle.std.proofs.lemmas.Option.{none-some, same_Some}
use Rattle.btor2.specs.Items.{is_state, next_value}
use Rattle.btor2.specs.Lists.{places}
use Rattle.blast.proofs.KindRows.{next_place-at, next_there, row_at-found}
use Rattle.blast.proofs.latches.next_row.Goals as goal

pub row-requires : goal.row-requires
row-requires c =
    let at = c.in-Some.ensures ∙ next_place-at c.args.model.now (get_or (places is_state 0 c.args.model.now) c.args.k 0) c.args.item.now c.requires.place in
    let there = next_there c.args.model.now c.args.item.now.id c.requires.well_formed c.requires.next in
    let same : c.in-Some.place ≡ there.0 = same_Some c.in-Some.place there.0 (at ∙ there.1) in
    let below : there.0 < length c.args.model.now = there.2 in
    omega (arith, c.requires.all)

pub unreachable-requires : goal.unreachable-requires
unreachable-requires c =
    let at = c.in-None.ensures ∙ next_place-at c.args.model.now (get_or (places is_state 0 c.args.model.now) c.args.k 0) c.args.item.now c.requires.place in
    let there = next_there c.args.model.now c.args.item.now.id c.requires.well_formed c.requires.next in
    none-some there.0 (at ∙ there.1)

pub returns : goal.returns
returns c =
    row_at-found c.args.model.now c.args.table.now (next_value c.args.model.now c.args.item.now.id) c.in-Some.place c.row.result.now
    (c.in-Some.ensures ∙ next_place-at c.args.model.now (get_or (places is_state 0 c.args.model.now) c.args.k 0) c.args.item.now c.requires.place)
    c.row.ensures
