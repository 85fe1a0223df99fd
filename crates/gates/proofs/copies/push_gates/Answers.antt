use Rattle.std.proofs.Common.{◌≡◌, ◌++◌, ◌∷◌, [], List, ℕ, rules, arith, length, take, append_assoc, ap, ◌∙◌}
use Rattle.std.proofs.lemmas.List.{length-take-le}
use Rattle.gates.specs.Made.{RefusesGate}
use Rattle.gates.proofs.LiteralLemmas.{Refuses-behind}
use Rattle.gates.specs.Reads.{literal_in}
use Rattle.gates.proofs.TableLemmas.{gates-more, gates-inside, both_defined, IsDefined-literal_of}
use Rattle.gates.proofs.copies.push_gates.Goals as goal

pub literal_of-requires : goal.literal_of-requires
literal_of-requires g c =
    let k = c.loop-gate.invariant in
    (gates-inside _ _ c.args.gates.now c.args.table.now k.0 c.loop-gate.table c.loop-gate.gate-index c.gate-item.result c.requires.ordered c.loop-gate-test.true c.gate-item.is k.1 k.2).0

pub literal_of-requires-in-loop-gate : goal.literal_of-requires-in-loop-gate
literal_of-requires-in-loop-gate g c =
    let k = c.loop-gate.invariant in
    (gates-inside _ _ c.args.gates.now c.args.table.now k.0 c.loop-gate.table c.loop-gate.gate-index c.gate-item.result c.requires.ordered c.loop-gate-test.true c.gate-item.is k.1 k.2).1

pub and-requires-clause-left : goal.and-requires-clause-left
and-requires-clause-left g c =
    let k = c.loop-gate.invariant in
    let inside = gates-inside _ _ c.args.gates.now c.args.table.now k.0 c.loop-gate.table c.loop-gate.gate-index c.gate-item.result c.requires.ordered c.loop-gate-test.true c.gate-item.is k.1 k.2 in
    rw c.literal_of.ensures (IsDefined-literal_of _ c.loop-gate.table c.gate-item.result.rhs0 inside.0 (both_defined _ _ _ c.args.table.now k.0 c.loop-gate.table k.2.grows c.requires.defined k.2.defined k.1))

pub and-requires-clause-right : goal.and-requires-clause-right
and-requires-clause-right g c =
    let k = c.loop-gate.invariant in
    let table = c.loop-gate.table in
    let inside = gates-inside _ _ c.args.gates.now c.args.table.now k.0 table c.loop-gate.gate-index c.gate-item.result c.requires.ordered c.loop-gate-test.true c.gate-item.is k.1 k.2 in
    rw c.literal_of-in-loop-gate.ensures (IsDefined-literal_of _ table c.gate-item.result.rhs1 inside.1 (both_defined _ _ _ c.args.table.now k.0 table k.2.grows c.requires.defined k.2.defined k.1))

pub returns-in_err-lit-clause-refused : goal.returns-in_err-lit-clause-refused
returns-in_err-lit-clause-refused g c =
    let k = c.loop-gate.invariant in
    let n = length c.args.gates.now in
    let so_far = length-take-le c.loop-gate.gate-index c.args.gates.now (omega arith) in
    let refused : RefusesGate (g.G.Gates.made c.args.g.now) (g.G.Gates.made c.and.new.self) n c.in_err-lit.field-0.0 =
    Refuses-behind _ _ _ (length (take c.loop-gate.gate-index c.args.gates.now)) 1 n _ (omega arith) k.2.grows c.in_err-lit.ensures.refused
    in search rules

pub loop-gate-preserved : goal.loop-gate-preserved
loop-gate-preserved g c =
    let k = c.loop-gate.invariant in
    let gs = c.args.gates.now in
    let before = c.args.table.now in
    let left : c.literal_of.result ≡ literal_in (before ++ k.0) c.gate-item.result.rhs0 = c.literal_of.ensures ∙ ap (λ (xs : List ℕ). literal_in xs c.gate-item.result.rhs0) k.1 in
    let right : c.literal_of-in-loop-gate.result ≡ literal_in (before ++ k.0) c.gate-item.result.rhs1 = c.literal_of-in-loop-gate.ensures ∙ ap (λ (xs : List ℕ). literal_in xs c.gate-item.result.rhs1) k.1 in
    let more = gates-more _ _ _ gs before k.0 c.loop-gate.gate-index c.gate-item.result c.literal_of.result c.literal_of-in-loop-gate.result c.in_ok-lit.lit c.requires.ordered c.requires.some c.requires.zero c.loop-gate-test.true c.gate-item.is left right k.2 c.in_ok-lit.ensures.ok in
    (k.0 ++ c.in_ok-lit.lit ∷ [], c.in-Ok.ensures.ok ∙ ap (λ (xs : List ℕ). xs ++ c.in_ok-lit.lit ∷ []) k.1 ∙ append_assoc before k.0 (c.in_ok-lit.lit ∷ []), more)
