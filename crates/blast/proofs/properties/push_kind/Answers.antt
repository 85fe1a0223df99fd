use Rattle.std.proofs.Common.{ap, length, arith}
use Rattle.aiger.specs.Circuit.{net}
use Rattle.blast.proofs.PropertyLemmas.{Adds-none, WithKind-few, WithKind-more, WithKind-all, WithKind-reads}
use Rattle.blast.proofs.properties.push_kind.Goals as goal

pub loop-place-init : goal.loop-place-init
loop-place-init c = Adds-none c.args.property c.args.circuit.now

pub push_item-requires-clause-reads : goal.push_item-requires-clause-reads
push_item-requires-clause-reads c = WithKind-reads c.args.property c.args.model.now c.args.table.now c.args.circuit.now c.loop-place.circuit c.loop-place.place c.loop-place.invariant c.requires.reads

pub push_item-requires-clause-few : goal.push_item-requires-clause-few
push_item-requires-clause-few c =
    WithKind-few c.args.property c.args.model.now (net c.args.circuit.now) c.args.table.now c.args.circuit.now c.loop-place.circuit c.loop-place.place c.item_at.result.now c.items-items.ensures.well_formed c.requires.reads c.requires.all
    c.loop-place.invariant c.requires.none (rw c.items-items.ensures.items at c.item_at.ensures)

pub loop-place-preserved : goal.loop-place-preserved
loop-place-preserved c =
    WithKind-more c.args.property c.args.model.now c.args.table.now c.args.circuit.now c.loop-place.circuit c.push_item.new.circuit c.loop-place.place c.item_at.result.now c.loop-place.invariant
    (rw c.items-items.ensures.items at c.item_at.ensures) c.in_ok-push_item.ensures.ok

pub returns-clause-ok : goal.returns-clause-ok
returns-clause-ok c = WithKind-all c.args.property c.args.model.now c.args.table.now c.args.circuit.now c.loop-place.circuit c.loop-place.place c.loop-place.invariant (omega (arith, ap length c.items-items.ensures.items))
