use Rattle.std.proofs.Common.{◌≡◌, ℕ, ◌++◌, map, List, ap, sym, ◌∙◌, subst}
use Rattle.aigerlists.specs.declared.loose.GateLine.{GateLine}
use Rattle.base.specs.Literal.{variable}
use Rattle.aigerlists.specs.Loose.{Loose, latch_variable, gate_variable, defined_variables}
use Rattle.aigerlists.specs.Numbering.{IsOnce}
use Rattle.aigerlists.proofs.loose.Loose.places.Goals as goal

pub push_gates-requires-clause-once : goal.push_gates-requires-clause-once
push_gates-requires-clause-once c =
    let l : Loose = c.args.self.now in
    let leaves : List ℕ = map variable l.inputs ++ map latch_variable l.latches in
    let e : c.push_leaves.new.numbers ++ map gate_variable c.gates-2.result.now ≡ defined_variables l = ap (λ (xs : List ℕ). xs ++ map gate_variable c.gates-2.result.now) c.in_ok-push_leaves.ensures.numbers ∙ ap (λ (lines : List GateLine). leaves ++ map gate_variable lines) c.gates-2.ensures.items in
    subst IsOnce (sym e) c.gates-2.ensures.valid.definitions.once
