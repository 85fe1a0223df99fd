use Rattle.std.proofs.Common.{◌≡◌, ℕ, suc, ◌+◌, ◌*◌, List, [], ◌∷◌, ◌++◌, length, map, refl, sym, ap, subst, arith}
use Rattle.certificates.specs.Invariants.{AreOver}
use Rattle.certificates.specs.Obligation.{truth_variable, gates_clauses, outside_clause, now_clauses}
use Rattle.certificates.specs.Made.{AddsClauses}
use Rattle.certificates.proofs.PutLemmas.{first_clause, first_put, leaves_front, leaves_less}
use Rattle.certificates.proofs.obligations.put_now.Goals as goal

pub put-requires : goal.put-requires
put-requires c =
    let truth : c.variables-truth.result + 1 ≡ truth_variable c.args.circuit.now = omega (arith, c.variables-truth.ensures.count) in
    first_clause _ ((2 * truth_variable c.args.circuit.now) ∷ []) ((2 * (c.variables-truth.result + 1)) ∷ []) _ (ap (λ (t : ℕ). (2 * t) ∷ []) truth) c.requires.literals

pub put_gates-requires-clause-literals : goal.put_gates-requires-clause-literals
put_gates-requires-clause-literals c =
    let d = c.args.circuit.now in
    let truth : c.variables-truth.result + 1 ≡ truth_variable d = omega (arith, c.variables-truth.ensures.count) in
    let gates : ℕ → List (List ℕ) = λ t. gates_clauses t (suc (d.inputs + length d.latches)) d.gates in
    let outs : List (List ℕ) = map (outside_clause d) c.args.invariant.now.cubes in
    let left = first_put c.args.formula.now c.put.new.formula ((2 * truth_variable d) ∷ []) ((2 * (c.variables-truth.result + 1)) ∷ []) (gates (truth_variable d) ++ outs) (ap (λ (t : ℕ). (2 * t) ∷ []) truth) c.requires.literals c.in_ok-put.ensures in
    subst (λ (t : ℕ). AreOver c.put.new.formula.variables (gates t)) (sym truth)
    (leaves_front c.args.formula.now c.put.new.formula (now_clauses d c.args.invariant.now.cubes) (gates (truth_variable d) ++ outs) (gates (truth_variable d)) outs refl left)

pub put_outsides-requires-clause-literals : goal.put_outsides-requires-clause-literals
put_outsides-requires-clause-literals c =
    let d = c.args.circuit.now in
    let truth : c.variables-truth.result + 1 ≡ truth_variable d = omega (arith, c.variables-truth.ensures.count) in
    let gates : ℕ → List (List ℕ) = λ t. gates_clauses t (suc (d.inputs + length d.latches)) d.gates in
    let outs : List (List ℕ) = map (outside_clause d) c.args.invariant.now.cubes in
    let left = first_put c.args.formula.now c.put.new.formula ((2 * truth_variable d) ∷ []) ((2 * (c.variables-truth.result + 1)) ∷ []) (gates (truth_variable d) ++ outs) (ap (λ (t : ℕ). (2 * t) ∷ []) truth) c.requires.literals c.in_ok-put.ensures in
    (leaves_less c.args.formula.now c.put.new.formula c.put_gates.new.formula (now_clauses d c.args.invariant.now.cubes) (gates (truth_variable d) ++ outs) (gates (truth_variable d)) outs refl left
    (subst (λ (t : ℕ). AddsClauses c.put.new.formula c.put_gates.new.formula (gates t)) truth c.in_ok-put_gates.ensures)).literals
