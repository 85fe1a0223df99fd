use Rattle.std.proofs.Common.{◌≡◌, ◌+◌, ◌%◌, Some, sym}
use Rattle.btor2.specs.Items.{position_of}
use Rattle.btor2.proofs.EntryLemmas.{entry-found, entry-missing}
use Rattle.btor2.proofs.LookUps.{position_in_front, place_below}
use Rattle.btor2.proofs.model.Model.entry.Goals as goal

in_front : (c : goal.Then-place-self) → Some ((c.from-id.result + 18446744073709551615) % 18446744073709551616) ≡ position_of c.args.self.now c.from-id.result
in_front c =
    let known = c.self.invariant in
    rw (← c.self.view_is) (position_in_front c.self.inside.items.items c.from-id.result c.self.inside.in_place known.well_formed known.few known.front c.from-id.type_inv c.if-place-self.true)

pub entry_at-requires : goal.entry_at-requires
entry_at-requires c = place_below c.args.self.now c.from-id.result _ (sym (in_front c))

pub returns-then-place-self-clause-sort : goal.returns-then-place-self-clause-sort
returns-then-place-self-clause-sort c = rw (← c.from-id.ensures) (entry-found c.args.self.now c.from-id.result _ c.entry_at.result (in_front c.before) c.entry_at.ensures.sort c.entry_at.ensures.node).0

pub returns-then-place-self-clause-node : goal.returns-then-place-self-clause-node
returns-then-place-self-clause-node c = rw (← c.from-id.ensures) (entry-found c.args.self.now c.from-id.result _ c.entry_at.result (in_front c.before) c.entry_at.ensures.sort c.entry_at.ensures.node).1

pub entry_at-requires-in-Some : goal.entry_at-requires-in-Some
entry_at-requires-in-Some c = place_below c.args.self.now c.from-id.result c.in-Some.place (sym c.in-Some.ensures)

pub returns-in-Some-clause-sort : goal.returns-in-Some-clause-sort
returns-in-Some-clause-sort c = rw (← c.from-id.ensures) (entry-found c.args.self.now c.from-id.result c.in-Some.place c.entry_at-in-Some.result c.in-Some.ensures c.entry_at-in-Some.ensures.sort c.entry_at-in-Some.ensures.node).0

pub returns-in-Some-clause-node : goal.returns-in-Some-clause-node
returns-in-Some-clause-node c = rw (← c.from-id.ensures) (entry-found c.args.self.now c.from-id.result c.in-Some.place c.entry_at-in-Some.result c.in-Some.ensures c.entry_at-in-Some.ensures.sort c.entry_at-in-Some.ensures.node).1

pub returns-in-None-clause-sort : goal.returns-in-None-clause-sort
returns-in-None-clause-sort c = rw (← c.from-id.ensures) (entry-missing c.args.self.now c.from-id.result c.in-None.ensures).0

pub returns-in-None-clause-node : goal.returns-in-None-clause-node
returns-in-None-clause-node c = rw (← c.from-id.ensures) (entry-missing c.args.self.now c.from-id.result c.in-None.ensures).1
