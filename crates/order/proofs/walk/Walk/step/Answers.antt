use Rattle.std.proofs.Common.{◌≡◌, ◌+◌, ◌-◌, length, get_or, take, subst, refl, sym, ap, ◌∙◌, arith}
use Rattle.order.specs.declared.walk.Progress.TheVariants.{New, Started, Done}
use Rattle.order.specs.Orders.{needs_of}
use Rattle.order.specs.Walk.{IsUnderway}
use Rattle.order.proofs.WalkLemmas.{top_last, top_inside, top_started, read_progress, none_new_set, underway_start, underway_look, underway_finish, underway_circle, top_chain, row_is, fewer_start, fewer_look, fewer_finish, at_need}
use Rattle.order.proofs.walk.Walk.step.Goals as goal

pub index-requires : goal.index-requires
index-requires c = omega (arith, top_inside c.requires.underway c.requires.top)

pub unreachable-requires : goal.unreachable-requires
unreachable-requires c =
    let is = top_started c.requires.underway c.requires.top in
    let read = read_progress c.args.self.now.progress.items c.args.top c.index.result.now c.index.result.now (top_inside c.requires.underway c.requires.top) c.index.ensures refl in
    c.in_default.not-Started is.0 (cc)

pub row-row-requires : goal.row-row-requires
row-row-requires c = omega (arith, top_inside c.requires.underway c.requires.top, c.requires.underway.as_many)

pub finish-requires-clause-inside : goal.finish-requires-clause-inside
finish-requires-clause-inside c = top_inside c.requires.underway c.requires.top

pub offset_bounds-row-place : goal.offset_bounds-row-place
offset_bounds-row-place c =
    let at = at_need c.requires.numbers c.requires.underway c.requires.top c.index.ensures c.in-Started.is c.row-row.ensures c.if-place-row.false in
    omega (arith, at.within)

pub bounds-row-place : goal.bounds-row-place
bounds-row-place c =
    let at = at_need c.requires.numbers c.requires.underway c.requires.top c.index.ensures c.in-Started.is c.row-row.ensures c.if-place-row.false in
    at.within

pub index-requires-2 : goal.index-requires-2
index-requires-2 c =
    let at = at_need c.requires.numbers c.requires.underway c.requires.top c.index.ensures c.in-Started.is c.row-row.ensures c.if-place-row.false in
    omega (arith, at.low)

pub start-requires : goal.start-requires
start-requires c =
    let at = at_need c.requires.numbers c.requires.underway c.requires.top c.index.ensures c.in-Started.is c.row-row.ensures c.if-place-row.false in
    record { inside = at.low }

pub overflow_add-place : goal.overflow_add-place
overflow_add-place c =
    let at = at_need c.requires.numbers c.requires.underway c.requires.top c.index.ensures c.in-Started.is c.row-row.ensures c.if-place-row.false in
    omega (arith, at.within)

pub index_mut-requires : goal.index_mut-requires
index_mut-requires c = omega (arith, top_inside c.requires.underway c.requires.top)

pub returns-in-Started-index-clause-err : goal.returns-in-Started-index-clause-err
returns-in-Started-index-clause-err c =
    let at = at_need c.requires.numbers c.requires.underway c.requires.top c.index.ensures c.in-Started.is c.row-row.ensures c.if-place-row.false in
    let started = read_progress c.args.self.now.progress.items (get_or c.row-row.result.now c.in-Started.place 0) c.index-2.result.now (Started c.in-Started-index.field-0) at.low c.index-2.ensures c.in-Started-index.is in
    let underway = subst (λ stack. IsUnderway c.args.needs.now c.args.self.now.progress.items stack c.args.self.now.order.items) (top_last c.args.self.now.stack.items c.args.top c.requires.top) c.requires.underway in
    underway_circle c.args.needs.now c.args.self.now.progress.items (take (length c.args.self.now.stack.items - 1) c.args.self.now.stack.items) c.args.self.now.order.items c.args.top (get_or c.row-row.result.now c.in-Started.place 0) c.in-Started-index.field-0 underway at.contained started

pub returns-then-place-row-clause-underway : goal.returns-then-place-row-clause-underway
returns-then-place-row-clause-underway c =
    let started = read_progress c.args.self.now.progress.items c.args.top c.index.result.now (Started c.in-Started.place) (top_inside c.requires.underway c.requires.top) c.index.ensures c.in-Started.is in
    let all : c.in-Started.place ≡ length (needs_of c.args.needs.now c.args.top) = c.if-place-row.true ∙ sym (ap length (row_is c.args.needs.now c.args.top c.row-row.result.now c.row-row.ensures)) in
    let underway = subst (λ stack. IsUnderway c.args.needs.now c.args.self.now.progress.items stack c.args.self.now.order.items) c.in_ok-finish.ensures.stack c.requires.underway in
    rw (c.in_ok-finish.ensures.progress, c.in_ok-finish.ensures.order)
    (underway_finish c.args.needs.now c.args.self.now.progress.items c.finish.new.self.stack.items c.args.self.now.order.items c.args.top c.in-Started.place underway started all)

pub returns-then-place-row-clause-none_new : goal.returns-then-place-row-clause-none_new
returns-then-place-row-clause-none_new c = rw c.in_ok-finish.ensures.progress (none_new_set c.args.self.now.progress.items c.args.top Done (top_inside c.requires.underway c.requires.top) (λ e. cc))

pub returns-then-place-row-clause-fewer : goal.returns-then-place-row-clause-fewer
returns-then-place-row-clause-fewer c =
    let started = read_progress c.args.self.now.progress.items c.args.top c.index.result.now (Started c.in-Started.place) (top_inside c.requires.underway c.requires.top) c.index.ensures c.in-Started.is in
    rw c.in_ok-finish.ensures.progress (fewer_finish c.args.needs.now c.args.self.now.progress.items c.args.top c.in-Started.place c.requires.underway.as_many started)

pub returns-in_ok-start-in-New-clause-underway : goal.returns-in_ok-start-in-New-clause-underway
returns-in_ok-start-in-New-clause-underway c =
    let at = at_need c.requires.numbers c.requires.underway c.requires.top c.index.ensures c.in-Started.is c.row-row.ensures c.if-place-row.false in
    let need = get_or c.row-row.result.now c.in-Started.place 0 in
    let new = read_progress c.args.self.now.progress.items need c.index-2.result.now New at.low c.index-2.ensures c.in-New.is in
    rw (c.in_ok-start-in-New.ensures.progress, c.in_ok-start-in-New.ensures.stack, c.in_ok-start-in-New.ensures.order)
    (underway_start c.args.needs.now c.args.self.now.progress.items c.args.self.now.stack.items c.args.self.now.order.items need c.requires.underway new (top_chain c.requires.underway c.requires.top at.contained))

pub returns-in_ok-start-in-New-clause-none_new : goal.returns-in_ok-start-in-New-clause-none_new
returns-in_ok-start-in-New-clause-none_new c =
    let at = at_need c.requires.numbers c.requires.underway c.requires.top c.index.ensures c.in-Started.is c.row-row.ensures c.if-place-row.false in
    rw c.in_ok-start-in-New.ensures.progress (none_new_set c.args.self.now.progress.items (get_or c.row-row.result.now c.in-Started.place 0) (Started 0) at.low (λ e. cc))

pub returns-in_ok-start-in-New-clause-fewer : goal.returns-in_ok-start-in-New-clause-fewer
returns-in_ok-start-in-New-clause-fewer c =
    let at = at_need c.requires.numbers c.requires.underway c.requires.top c.index.ensures c.in-Started.is c.row-row.ensures c.if-place-row.false in
    let need = get_or c.row-row.result.now c.in-Started.place 0 in
    let new = read_progress c.args.self.now.progress.items need c.index-2.result.now New at.low c.index-2.ensures c.in-New.is in
    rw c.in_ok-start-in-New.ensures.progress (fewer_start c.args.needs.now c.args.self.now.progress.items need c.requires.underway.as_many new)

pub returns-in-Done-clause-underway : goal.returns-in-Done-clause-underway
returns-in-Done-clause-underway c =
    let at = at_need c.requires.numbers c.requires.underway c.requires.top c.index.ensures c.in-Started.is c.row-row.ensures c.if-place-row.false in
    let need = get_or c.row-row.result.now c.in-Started.place 0 in
    let done = read_progress c.args.self.now.progress.items need c.index-2.result.now Done at.low c.index-2.ensures c.in-Done.is in
    underway_look c.args.needs.now c.args.self.now.progress.items c.args.self.now.stack.items c.args.self.now.order.items c.args.top c.in-Started.place need c.requires.underway at.started at.need done

pub returns-in-Done-clause-none_new : goal.returns-in-Done-clause-none_new
returns-in-Done-clause-none_new c = none_new_set c.args.self.now.progress.items c.args.top (Started (c.in-Started.place + 1)) (top_inside c.requires.underway c.requires.top) (λ e. cc)

pub returns-in-Done-clause-fewer : goal.returns-in-Done-clause-fewer
returns-in-Done-clause-fewer c =
    let at = at_need c.requires.numbers c.requires.underway c.requires.top c.index.ensures c.in-Started.is c.row-row.ensures c.if-place-row.false in
    fewer_look c.args.needs.now c.args.self.now.progress.items c.args.top c.in-Started.place c.requires.underway.as_many at.started at.inside
