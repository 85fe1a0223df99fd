use Rattle.std.proofs.Common.{◌≡◌, ℕ, List, ◌++◌, map, ap, sym, ◌∙◌, subst}
use Rattle.aiger.specs.declared.circuit.Gate.{Gate}
use Rattle.aigerlists.specs.declared.loose.GateLine.{GateLine}
use Rattle.aiger.specs.Circuit.{IsCircuit}
use Rattle.base.specs.Literal.{variable}
use Rattle.aigerlists.specs.Loose.{Loose, latch_variable}
use Rattle.aigerlists.specs.Numbering.{IsOnce, line_in, gate_name_at}
use Rattle.aigerlists.specs.Renumbering.{IsNumberingBy, new_gate, variables_numbered, renumbered, circuit_by}
use Rattle.aigerlists.proofs.InOrderLemmas.{by_order}
use Rattle.aigerlists.proofs.KnownLemmas.{all_known}
use Rattle.aigerlists.proofs.NumberingLemmas.{IsCircuit-renumbered}
use Rattle.aigerlists.proofs.PlacesLemmas.{each_is_gate, once_numbered, use_numbered}
use Rattle.aigerlists.proofs.loose.Loose.number_by_order.Goals as goal

-- the variables of leaves and gates are those that have numbers
are_numbered : (l : Loose) (order front : List ℕ) (lines : List GateLine) → front ≡ map variable l.inputs ++ map latch_variable l.latches → lines ≡ l.gates → front ++ map (gate_name_at lines) order ≡ variables_numbered l order
are_numbered l order front lines e f = ap (λ (xs : List ℕ). xs ++ map (gate_name_at lines) order) e ∙ ap (λ (gates : List GateLine). (map variable l.inputs ++ map latch_variable l.latches) ++ map (gate_name_at gates) order) f

pub gates_in_order-requires-clause-within : goal.gates_in_order-requires-clause-within
gates_in_order-requires-clause-within c = rw (c.gates.ensures.items) (each_is_gate c.args.self.now c.args.order.now c.requires.order.in_turn)

pub gates_in_order-requires-clause-once : goal.gates_in_order-requires-clause-once
gates_in_order-requires-clause-once c =
    let l : Loose = c.args.self.now in
    subst IsOnce (sym (are_numbered l c.args.order.now _ _ c.in_ok-push_leaves.ensures.numbers c.gates.ensures.items)) (once_numbered l c.args.order.now c.requires.valid c.requires.order.in_turn)

pub gates_in_order-requires-clause-known : goal.gates_in_order-requires-clause-known
gates_in_order-requires-clause-known c =
    rw (c.in_ok-push_leaves.ensures.numbers, c.gates.ensures.items) (use_numbered c.args.self.now c.args.order.now c.requires.order.in_turn)

-- the circuit by them
circuit_is : (l : Loose) (order front names : List ℕ) (lines : List GateLine) (gates : List Gate) → front ≡ map variable l.inputs ++ map latch_variable l.latches → lines ≡ l.gates → names ≡ front ++ map (gate_name_at lines) order
    → gates ≡ map (λ j. new_gate (front ++ map (gate_name_at lines) order) (line_in lines j)) order → circuit_by l names gates ≡ renumbered l order
circuit_is l order front names lines gates e f is made =
    let all : front ++ map (gate_name_at lines) order ≡ variables_numbered l order = are_numbered l order front lines e f in
    by_order l order names gates (is ∙ all)
    (made ∙ (ap (λ (ns : List ℕ). map (λ (j : ℕ). new_gate ns (line_in lines j)) order) (sym is) ∙ ap (λ (ls : List GateLine). map (λ (j : ℕ). new_gate names (line_in ls j)) order) f))

pub renumbered-requires-clause-valid : goal.renumbered-requires-clause-valid
renumbered-requires-clause-valid c =
    let l : Loose = c.args.self.now in
    subst IsCircuit (sym (circuit_is l c.args.order.now _ _ _ _ c.in_ok-push_leaves.ensures.numbers c.gates.ensures.items c.in_ok-gates.ensures.numbers c.in_ok-gates.ensures.gates))
    (IsCircuit-renumbered l c.args.order.now c.requires.valid (all_known l c.requires.known) c.requires.order c.requires.few)

pub returns : goal.returns
returns c =
    let l : Loose = c.args.self.now in
    let order : List ℕ = c.args.order.now in
    let circuit = c.in_ok-circuit.ensures ∙ circuit_is l order _ _ _ _ c.in_ok-push_leaves.ensures.numbers c.gates.ensures.items c.in_ok-gates.ensures.numbers c.in_ok-gates.ensures.gates in
    let numbers = c.in_ok-gates.ensures.numbers ∙ are_numbered l order _ _ c.in_ok-push_leaves.ensures.numbers c.gates.ensures.items in (
      record { known = c.requires.known; order = order; is_order = c.requires.order; circuit = circuit },
      record { order = order; is_order = c.requires.order; circuit = circuit; numbers = subst (λ (ns : List ℕ). IsNumberingBy ns c.of.result) numbers c.of.ensures },
    )
