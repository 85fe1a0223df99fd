use Rattle.std.proofs.Common.{◌≡◌, ℕ, Option, Bool, false, not, cond, List, [], All, length, sym, ap, ap₂, subst, ◌∙◌, arith}
use Rattle.btor2.specs.Items.{is_carried_state, next_value, init_word}
use Rattle.aiger.specs.declared.circuit.Latch.{Latch}
use Rattle.aiger.specs.Net.{IsDefined}
use Rattle.aiger.specs.Circuit.{net}
use Rattle.blast.specs.Blocks.{written_over}
use Rattle.blast.specs.Rows.{row_at, row_latches, state_latches}
use Rattle.blast.proofs.KindBlocks.{written-nil}
use Rattle.blast.proofs.KindRows.{state_by_number}
use Rattle.blast.proofs.LatchLemmas.{length-row_latches, next_row-short, next_row-defined, CarriedState-from}
use Rattle.blast.proofs.latches.set_state.Goals as goal

pub returns-then-is_free-clause-latches : goal.returns-then-is_free-clause-latches
returns-then-is_free-clause-latches c =
    let kind = state_by_number c.args.model.now c.args.k c.args.item.now c.is_free.result c.requires.there c.requires.place c.is_free.ensures in
    let other : is_carried_state c.args.model.now c.args.item.now ≡ false = sym kind.1 ∙ ap not c.if-is_free.true in
    sym
    (ap (λ (b : Bool). record c.args.circuit.now { latches = written_over c.args.circuit.now.latches c.args.first (cond b (state_latches c.args.model.now c.args.table.now c.args.item.now) []) }) other
    ∙ ap (λ (l : List Latch). record c.args.circuit.now { latches = l }) (written-nil c.args.circuit.now.latches c.args.first))

pub next_row-row-requires-clause-next : goal.next_row-row-requires-clause-next
next_row-row-requires-clause-next c =
    (CarriedState-from c.args.model.now c.args.table.now c.args.k c.args.item.now c.is_free.result c.requires.there c.requires.place c.requires.nexts c.is_free.ensures c.if-is_free.false).next

pub set_row-requires-clause-room : goal.set_row-requires-clause-room
set_row-requires-clause-room c =
    let state = CarriedState-from c.args.model.now c.args.table.now c.args.k c.args.item.now c.is_free.result c.requires.there c.requires.place c.requires.nexts c.is_free.ensures c.if-is_free.false in
    omega (arith, c.requires.room, ap length state.latches, ap length c.next_row-row.ensures, length-row_latches (init_word c.args.model.now c.args.item.now.id) 0 (row_at c.args.model.now c.args.table.now (next_value c.args.model.now c.args.item.now.id)))

pub set_row-requires-clause-short : goal.set_row-requires-clause-short
set_row-requires-clause-short c =
    let state = CarriedState-from c.args.model.now c.args.table.now c.args.k c.args.item.now c.is_free.result c.requires.there c.requires.place c.requires.nexts c.is_free.ensures c.if-is_free.false in
    omega (arith, ap length c.next_row-row.ensures, next_row-short c.args.model.now (net c.args.circuit.now) c.args.table.now c.args.item.now.id c.requires.well_formed c.requires.reads c.requires.all state.next)

pub set_row-requires-clause-defined : goal.set_row-requires-clause-defined
set_row-requires-clause-defined c =
    let state = CarriedState-from c.args.model.now c.args.table.now c.args.k c.args.item.now c.is_free.result c.requires.there c.requires.place c.requires.nexts c.is_free.ensures c.if-is_free.false in
    subst (λ (row : List ℕ). All (IsDefined (net c.args.circuit.now)) row) (sym c.next_row-row.ensures)
    (next_row-defined c.args.model.now (net c.args.circuit.now) c.args.table.now c.args.item.now.id c.requires.well_formed c.requires.reads c.requires.all state.next)

pub returns-clause-latches : goal.returns-clause-latches
returns-clause-latches c =
    let state = CarriedState-from c.args.model.now c.args.table.now c.args.k c.args.item.now c.is_free.result c.requires.there c.requires.place c.requires.nexts c.is_free.ensures c.if-is_free.false in
    c.set_row.ensures
    ∙ ap (λ (l : List Latch). record c.args.circuit.now { latches = written_over c.args.circuit.now.latches c.args.first l }) (ap₂ (λ (o : Option ℕ) (r : List ℕ). row_latches o 0 r) c.init_of.ensures c.next_row-row.ensures ∙ sym state.latches)

pub returns-clause-count : goal.returns-clause-count
returns-clause-count c =
    let state = CarriedState-from c.args.model.now c.args.table.now c.args.k c.args.item.now c.is_free.result c.requires.there c.requires.place c.requires.nexts c.is_free.ensures c.if-is_free.false in
    ap length c.next_row-row.ensures ∙ sym (ap length state.latches ∙ length-row_latches (init_word c.args.model.now c.args.item.now.id) 0 (row_at c.args.model.now c.args.table.now (next_value c.args.model.now c.args.item.now.id)))
