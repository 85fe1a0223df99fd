use Rattle.std.proofs.Common.{All, ap, sym, subst, ◌∙◌}
use Rattle.aiger.specs.Net.{IsDefined}
use Rattle.witness_circuits.specs.Made.{next_literals}
use Rattle.witness_circuits.proofs.BesideLemmas.{defined-next_literals}
use Rattle.witness_circuits.proofs.copies.next_frames.Goals as goal

pub first_frames-requires-clause-latches_defined : goal.first_frames-requires-clause-latches_defined
first_frames-requires-clause-latches_defined g c =
    let n = g.G.Gates.made c.args.g.now in
    let circuit = c.args.circuit.now in
    let table = c.args.first.now.table in
    subst (All (IsDefined n)) (sym (c.deref.ensures.value ∙ (c.in_ok-latches.ensures.ok ∙ ap (next_literals table) c.latches.ensures.items)))
    (defined-next_literals circuit n table circuit.latches c.requires.table c.latches.ensures.valid.defined.nexts)

pub first_frames-requires-clause-own_latches_defined : goal.first_frames-requires-clause-own_latches_defined
first_frames-requires-clause-own_latches_defined g c =
    let n = g.G.Gates.made c.args.g.now in
    let circuit = c.args.witness.now in
    let table = c.args.first.now.own in
    subst (All (IsDefined n)) (sym (c.deref-2.ensures.value ∙ (c.in_ok-own_latches.ensures.ok ∙ ap (next_literals table) c.latches-2.ensures.items)))
    (defined-next_literals circuit n table circuit.latches c.requires.own c.latches-2.ensures.valid.defined.nexts)
