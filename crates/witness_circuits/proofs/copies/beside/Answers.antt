use Rattle.std.proofs.Common.{◌≡◌, length, All, ap, sym, subst, ◌∙◌}
use Rattle.aiger.specs.Net.{IsDefined}
use Rattle.witness_circuits.specs.Made.{IsSharedBelow}
use Rattle.witness_circuits.proofs.BesideLemmas.{length-beside_literals, defined-beside_literals}
use Rattle.witness_circuits.proofs.copies.beside.Goals as goal

pub copied-requires-clause-inputs : goal.copied-requires-clause-inputs
copied-requires-clause-inputs g c =
    let table = c.args.table.now in
    let stands : c.deref.result.now ≡ c.args.shared.now.inputs.items = c.deref.ensures.value in
    let many : length c.args.own_inputs.now ≡ length c.deref.result.now = c.requires.inputs ∙ (sym c.requires.mapping.inputs ∙ sym (ap length stands)) in
    ap length (c.deref-3.ensures.value ∙ c.in_ok-inputs.ensures.ok) ∙ (length-beside_literals table c.deref.result.now c.args.own_inputs.now many ∙ (ap length stands ∙ c.requires.mapping.inputs))

pub copied-requires-clause-inputs_defined : goal.copied-requires-clause-inputs_defined
copied-requires-clause-inputs_defined g c =
    let table = c.args.table.now in
    let n = g.G.Gates.made c.args.g.now in
    let stands : c.deref.result.now ≡ c.args.shared.now.inputs.items = c.deref.ensures.value in
    let inside : All (IsSharedBelow (length table)) c.deref.result.now = subst (All (IsSharedBelow (length table))) (sym stands) c.requires.inputs_inside in
    subst (All (IsDefined n)) (sym (c.deref-3.ensures.value ∙ c.in_ok-inputs.ensures.ok))
    (defined-beside_literals n table c.deref.result.now c.args.own_inputs.now inside c.requires.table c.requires.inputs_defined)

pub copied-requires-clause-latches : goal.copied-requires-clause-latches
copied-requires-clause-latches g c =
    let table = c.args.table.now in
    let stands : c.deref-2.result.now ≡ c.args.shared.now.latches.items = c.deref-2.ensures.value in
    let many : length c.args.own_latches.now ≡ length c.deref-2.result.now = c.requires.latches ∙ (sym c.requires.mapping.latches ∙ sym (ap length stands)) in
    ap length (c.deref-4.ensures.value ∙ c.in_ok-latches.ensures.ok) ∙ (length-beside_literals table c.deref-2.result.now c.args.own_latches.now many ∙ (ap length stands ∙ c.requires.mapping.latches))

pub copied-requires-clause-latches_defined : goal.copied-requires-clause-latches_defined
copied-requires-clause-latches_defined g c =
    let table = c.args.table.now in
    let n = g.G.Gates.made c.args.g.now in
    let stands : c.deref-2.result.now ≡ c.args.shared.now.latches.items = c.deref-2.ensures.value in
    let inside : All (IsSharedBelow (length table)) c.deref-2.result.now = subst (All (IsSharedBelow (length table))) (sym stands) c.requires.latches_inside in
    subst (All (IsDefined n)) (sym (c.deref-4.ensures.value ∙ c.in_ok-latches.ensures.ok))
    (defined-beside_literals n table c.deref-2.result.now c.args.own_latches.now inside c.requires.table c.requires.latches_defined)
