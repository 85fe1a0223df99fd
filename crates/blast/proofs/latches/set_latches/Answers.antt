use Rattle.std.proofs.Common.{◌≡◌, ℕ, ◌+◌, ◌≤◌, Some, length, get_or, slice_get, refl, ap, subst, sym, ◌∙◌, arith}
use Rattle.btor2.specs.Items.{is_state}
use Rattle.btor2.proofs.LeafLemmas.{place_within, place_kind}
use Rattle.aiger.specs.Circuit.{Circuit, net}
use Rattle.blast.specs.Blocks.{written_over}
use Rattle.blast.specs.Reads.{LatchesRead}
use Rattle.blast.specs.Rows.{item_latches}
use Rattle.blast.proofs.KindBlocks.{reached, reached-none}
use Rattle.blast.proofs.LatchLemmas.{WithStates-none, WithStates-room, WithStates-more, WithStates-all, reached-state, other_latches, LatchesRead-made}
use Rattle.blast.proofs.latches.set_latches.Goals as goal

pub loop-k-init : goal.loop-k-init
loop-k-init c =
    record {
      first = sym (reached-none (item_latches c.args.model.now c.args.table.now) c.args.model.now c.states-states.result.now);
      latches = WithStates-none c.args.model.now (net c.args.circuit.now) c.args.table.now c.states-states.result.now c.args.circuit.now c.items-items.ensures.well_formed c.requires.reads c.requires.all c.requires.nexts c.states-states.ensures c.requires.fresh;
      as_many = refl;
      same_net = refl;
    }

pub item_at-item-requires : goal.item_at-item-requires
item_at-item-requires c =
    omega (arith, ap length c.items-items.ensures.items, place_within is_state c.args.model.now c.states-states.result.now c.loop-k.k c.states-states.ensures c.loop-k-test.true)

pub set_state-first-requires-clause-state : goal.set_state-first-requires-clause-state
set_state-first-requires-clause-state c =
    place_kind is_state c.args.model.now c.states-states.result.now c.loop-k.k c.item_at-item.result.now c.states-states.ensures c.loop-k-test.true (rw c.items-items.ensures.items at c.item_at-item.ensures)

pub set_state-first-requires-clause-room : goal.set_state-first-requires-clause-room
set_state-first-requires-clause-room c =
    rw c.loop-k.invariant.first
    (WithStates-room c.args.model.now c.args.table.now c.states-states.result.now c.args.circuit.now c.loop-k.circuit c.loop-k.k c.item_at-item.result.now c.loop-k.invariant.latches c.loop-k-test.true
    (rw c.items-items.ensures.items at c.item_at-item.ensures))

pub overflow_add-first : goal.overflow_add-first
overflow_add-first c =
    let room = WithStates-room c.args.model.now c.args.table.now c.states-states.result.now c.args.circuit.now c.loop-k.circuit c.loop-k.k c.item_at-item.result.now c.loop-k.invariant.latches c.loop-k-test.true
    (rw c.items-items.ensures.items at c.item_at-item.ensures) in
    omega (arith, room, c.set_state-first.ensures.count, c.loop-k.invariant.first, c.loop-k.invariant.as_many, c.variables.ensures.valid.small)

pub loop-k-preserved : goal.loop-k-preserved
loop-k-preserved c =
    let at : slice_get c.args.model.now (get_or c.states-states.result.now c.loop-k.k 0) ≡ Some c.item_at-item.result.now = rw c.items-items.ensures.items at c.item_at-item.ensures in
    let latches = item_latches c.args.model.now c.args.table.now c.item_at-item.result.now in
    let room : c.loop-k.first + length latches ≤ length c.loop-k.circuit.latches =
    rw c.loop-k.invariant.first (WithStates-room c.args.model.now c.args.table.now c.states-states.result.now c.args.circuit.now c.loop-k.circuit c.loop-k.k c.item_at-item.result.now c.loop-k.invariant.latches c.loop-k-test.true at) in
    let same = other_latches c.loop-k.circuit c.set_state-first.new.circuit c.loop-k.first latches c.set_state-first.ensures.latches room in
    record {
      first = ap (λ (n : ℕ). n + c.set_state-first.result) c.loop-k.invariant.first
          ∙ ap (λ (n : ℕ). reached (item_latches c.args.model.now c.args.table.now) c.args.model.now c.states-states.result.now c.loop-k.k + n) c.set_state-first.ensures.count
          ∙ sym (reached-state c.args.model.now c.args.table.now c.states-states.result.now c.loop-k.k c.item_at-item.result.now c.loop-k-test.true at);
      latches = WithStates-more c.args.model.now c.args.table.now c.states-states.result.now c.args.circuit.now c.loop-k.circuit c.set_state-first.new.circuit c.loop-k.k c.item_at-item.result.now c.loop-k.invariant.latches c.loop-k-test.true at
          (c.set_state-first.ensures.latches ∙ ap (λ (n : ℕ). record c.loop-k.circuit { latches = written_over c.loop-k.circuit.latches n latches }) c.loop-k.invariant.first);
      as_many = same.0 ∙ c.loop-k.invariant.as_many;
      same_net = same.1 ∙ c.loop-k.invariant.same_net;
    }

pub returns-clause-latches : goal.returns-clause-latches
returns-clause-latches c =
    let made = WithStates-all c.args.model.now c.args.table.now c.states-states.result.now c.args.circuit.now c.loop-k.circuit c.loop-k.k c.states-states.ensures (omega arith) c.loop-k.invariant.latches in
    subst (LatchesRead c.args.model.now (net c.args.circuit.now) c.args.model.now) (sym (ap (λ (n : Circuit). n.latches) made))
    (LatchesRead-made c.args.model.now (net c.args.circuit.now) c.args.table.now c.args.model.now c.items-items.ensures.well_formed c.requires.reads c.requires.all c.requires.nexts)
