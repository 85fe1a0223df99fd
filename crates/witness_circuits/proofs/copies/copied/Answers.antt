use Rattle.std.proofs.Common.{ℕ, List, length, sym, subst}
use Rattle.aiger.specs.declared.circuit.Gate.{Gate}
use Rattle.aiger.specs.Net.{AreOrderedFrom}
use Rattle.witness_circuits.proofs.CopyLemmas.{copied_made, leaves_many}
use Rattle.witness_circuits.proofs.copies.copied.Goals as goal

pub push_gates-requires-clause-ordered : goal.push_gates-requires-clause-ordered
push_gates-requires-clause-ordered g c =
    let circuit = c.args.circuit.now in
    subst (λ (gs : List Gate). AreOrderedFrom (length c.in_ok-table.table) gs) (sym c.gates.ensures.items)
    (subst (λ (n : ℕ). AreOrderedFrom n circuit.gates) (sym (leaves_many circuit c.args.inputs.now c.args.latches.now _ c.in_ok-table.ensures.ok c.requires.inputs c.requires.latches)) c.gates.ensures.valid.ordered)

pub returns-clause-ok : goal.returns-clause-ok
returns-clause-ok g c =
    let q = c.in_ok-push_gates.ensures.ok in
    copied_made c.args.circuit.now _ _ _ c.args.inputs.now c.args.latches.now _ q.0 _ c.in_ok-table.ensures.ok c.requires.inputs c.requires.latches c.requires.inputs_defined c.requires.latches_defined c.gates.ensures.items q.2 q.1
