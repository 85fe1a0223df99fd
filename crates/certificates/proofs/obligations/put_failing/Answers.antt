use Rattle.std.proofs.Common.{◌≡◌, ℕ, ◌+◌, ◌*◌, List, [], ◌∷◌, ◌++◌, length, refl, ap₂, ◌∙◌, arith}
use Rattle.certificates.specs.Invariants.{bad_literal}
use Rattle.certificates.specs.Obligation.{over, truth_variable, rise_variable, cube_variable, nexts_clauses, fails_clause, failing_clauses}
use Rattle.certificates.proofs.PutLemmas.{first_clause, first_put, leaves_front, leaves_less, fails_is}
use Rattle.certificates.proofs.obligations.put_failing.Goals as goal

pub put-requires : goal.put-requires
put-requires c =
    let d = c.args.circuit.now in
    let truth : c.variables-truth.result + 1 ≡ truth_variable d = omega (arith, c.variables-truth.ensures.count) in
    let off : 2 * (c.variables-truth.result + 1 + 1) + 1 ≡ 2 * rise_variable d + 1 = omega (arith, c.variables-truth.ensures.count) in
    first_clause _ ((2 * rise_variable d + 1) ∷ over (truth_variable d) (bad_literal d) ∷ []) ((2 * (c.variables-truth.result + 1 + 1) + 1) ∷ c.over.result ∷ []) _
    (ap₂ (λ (x y : ℕ). x ∷ y ∷ []) off (c.over.ensures ∙ ap₂ over truth c.bad_literal.ensures)) c.requires.literals

pub put_nexts-requires-clause-literals : goal.put_nexts-requires-clause-literals
put_nexts-requires-clause-literals c =
    let d = c.args.circuit.now in
    let truth : c.variables-truth.result + 1 ≡ truth_variable d = omega (arith, c.variables-truth.ensures.count) in
    let off : 2 * (c.variables-truth.result + 1 + 1) + 1 ≡ 2 * rise_variable d + 1 = omega (arith, c.variables-truth.ensures.count) in
    let nexts : List (List ℕ) = nexts_clauses d (cube_variable d) c.args.invariant.now.cubes in
    let last : List (List ℕ) = fails_clause d (length c.args.invariant.now.cubes) ∷ [] in
    let left = first_put c.args.formula.now c.put.new.formula ((2 * rise_variable d + 1) ∷ over (truth_variable d) (bad_literal d) ∷ []) ((2 * (c.variables-truth.result + 1 + 1) + 1) ∷ c.over.result ∷ []) (nexts ++ last)
    (ap₂ (λ (x y : ℕ). x ∷ y ∷ []) off (c.over.ensures ∙ ap₂ over truth c.bad_literal.ensures)) c.requires.literals c.in_ok-put.ensures in
    leaves_front c.args.formula.now c.put.new.formula (failing_clauses d c.args.invariant.now.cubes) (nexts ++ last) nexts last refl left

pub put-requires-2 : goal.put-requires-2
put-requires-2 c =
    let d = c.args.circuit.now in
    let truth : c.variables-truth.result + 1 ≡ truth_variable d = omega (arith, c.variables-truth.ensures.count) in
    let off : 2 * (c.variables-truth.result + 1 + 1) + 1 ≡ 2 * rise_variable d + 1 = omega (arith, c.variables-truth.ensures.count) in
    let nexts : List (List ℕ) = nexts_clauses d (cube_variable d) c.args.invariant.now.cubes in
    let last : List (List ℕ) = fails_clause d (length c.args.invariant.now.cubes) ∷ [] in
    let left = first_put c.args.formula.now c.put.new.formula ((2 * rise_variable d + 1) ∷ over (truth_variable d) (bad_literal d) ∷ []) ((2 * (c.variables-truth.result + 1 + 1) + 1) ∷ c.over.result ∷ []) (nexts ++ last)
    (ap₂ (λ (x y : ℕ). x ∷ y ∷ []) off (c.over.ensures ∙ ap₂ over truth c.bad_literal.ensures)) c.requires.literals c.in_ok-put.ensures in
    let less = leaves_less c.args.formula.now c.put.new.formula c.put_nexts.new.formula (failing_clauses d c.args.invariant.now.cubes) (nexts ++ last) nexts last refl left c.in_ok-put_nexts.ensures in
    let rise : c.variables-truth.result + 1 + 1 ≡ rise_variable d = omega (arith, c.variables-truth.ensures.count) in
    let many : c.cube_count.result + 1 ≡ length c.args.invariant.now.cubes + 1 = omega (arith, c.cube_count.ensures.count) in
    first_clause c.put_nexts.new.formula.variables (fails_clause d (length c.args.invariant.now.cubes)) c.deref.result.now []
    (c.deref.ensures.value ∙ (c.in_ok-variables_from.ensures ∙ fails_is d (length c.args.invariant.now.cubes) (c.variables-truth.result + 1 + 1) (c.cube_count.result + 1) rise many)) less.literals
