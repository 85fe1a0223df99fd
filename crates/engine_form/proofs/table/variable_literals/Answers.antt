use Rattle.std.proofs.Common.{◌≡◌, ℕ, suc, ◌+◌, ◌*◌, ◌++◌, List, length, All, map, ap, sym, subst, ◌∙◌, length-append, arith}
use Rattle.std.specs.List.{range_with_len}
use Rattle.std.proofs.lemmas.List.FromFn.{length-map-range_with_len}
use Rattle.aiger.specs.declared.circuit.Gate.{Gate}
use Rattle.aiger.specs.Net.{IsDefined, AreOrderedFrom}
use Rattle.gates.proofs.TableLemmas.{both_defined, doubles_defined}
use Rattle.engine_form.proofs.MadeLemmas.{TableRead-made, LatchesRead-said, GatesRead-said}
use Rattle.engine_form.proofs.table.variable_literals.Goals as goal

pub returns-clause-ok : goal.returns-clause-ok
returns-clause-ok g c =
    let circuit = c.args.circuit.now in
    let old = g.G.Gates.made c.args.g.now in
    let p = c.in_ok-push_latches.ensures.ok in
    let q = c.in_ok-push_gates.ensures.ok in
    let inputs_is : c.new-table.result ≡ map (λ k. 2 * k) (range_with_len 0 (circuit.inputs + 1)) = c.new-table.ensures ∙ ap (λ (n : ℕ). map (λ k. 2 * k) (range_with_len 0 (n + 1))) c.inputs.ensures.count in
    let many : length c.latches.result.now ≡ length circuit.latches = ap length c.latches.ensures.items in
    let own : c.args.inputs + 1 ≡ suc old.inputs = (let e = c.requires.inputs in omega arith) in
    let input : c.inputs-2.result + 1 ≡ suc circuit.inputs = (let e = c.inputs-2.ensures.count in omega arith) in
    let l = LatchesRead-said _ _ _ circuit.latches _ (suc old.inputs) _ (suc circuit.inputs) c.args.started p.0 c.latches.ensures.items own input p.2 in
    let made = GatesRead-said _ _ _ circuit.gates _ (c.new-table.result ++ p.0) q.0 c.gates.ensures.items p.1 q.2 in
    TableRead-made circuit c.args.started old _ _ c.new-table.result p.0 q.0 _ c.inputs.ensures.valid (let e = c.requires.enough in let f = c.requires.latches in let k = c.requires.inputs in omega arith) inputs_is l made (q.1 ∙ ap (λ (xs : List ℕ). xs ++ q.0) p.1)

pub push_gates-requires-clause-ordered : goal.push_gates-requires-clause-ordered
push_gates-requires-clause-ordered g c =
    let circuit = c.args.circuit.now in
    let p = c.in_ok-push_latches.ensures.ok in
    let size = ap length c.new-table.ensures ∙ length-map-range_with_len (λ k. 2 * k) 0 (c.inputs.result + 1) in
    let many : length c.latches.result.now ≡ length circuit.latches = ap length c.latches.ensures.items in
    let whole : suc (circuit.inputs + length circuit.latches) ≡ length c.push_latches.new.table = (let e = ap length p.1 in let f = length-append c.new-table.result p.0 in let h = p.2.many in let k = c.inputs.ensures.count in omega arith) in
    subst (λ (gs : List Gate). AreOrderedFrom (length c.push_latches.new.table) gs) (sym c.gates.ensures.items) (subst (λ (n : ℕ). AreOrderedFrom n circuit.gates) whole c.inputs.ensures.valid.ordered)

pub push_gates-requires-clause-defined : goal.push_gates-requires-clause-defined
push_gates-requires-clause-defined g c =
    let old = g.G.Gates.made c.args.g.now in
    let p = c.in_ok-push_latches.ensures.ok in
    let own : All (IsDefined old) c.new-table.result = subst (All (IsDefined old)) (sym c.new-table.ensures) (doubles_defined old 0 (c.inputs.result + 1) (let e = c.inputs.ensures.count in let f = c.requires.latches in let h = c.requires.enough in omega arith)) in
    both_defined old (g.G.Gates.made c.push_latches.new.g) _ c.new-table.result p.0 c.push_latches.new.table p.2.grows own p.2.defined p.1
