use Rattle.std.proofs.Common.{◌≡◌, ℕ, ◌+◌, ◌++◌, length, sym, ap, subst, ◌∙◌, arith}
use Rattle.drup.specs.Formula.{Formula}
use Rattle.certificates.specs.Invariants.{AreOver}
use Rattle.certificates.specs.Obligation.{rise_variable, now_clauses, failing_clauses}
use Rattle.certificates.proofs.FormulaLemmas.{is_formula}
use Rattle.certificates.proofs.obligations.obligation.Goals as goal

pub put_all-requires-clause-literals : goal.put_all-requires-clause-literals
put_all-requires-clause-literals c =
    let d = c.args.circuit.now in
    let cubes = c.args.invariant.now.cubes in
    let many : c.variables-rise.result + 2 + c.cube_count-count.result ≡ rise_variable d + length cubes = omega (arith, c.variables-rise.ensures.count, c.cube_count-count.ensures.count) in
    let is : c.new-formula.result.variables ≡ rise_variable d + length cubes = ap (λ (f : Formula). f.variables) c.new-formula.ensures ∙ many in
    subst (λ (n : ℕ). AreOver n (now_clauses d cubes ++ failing_clauses d cubes)) (sym is)
    (is_formula d cubes c.variables-rise.ensures.valid (subst (λ (n : ℕ). AreOver n cubes) c.requires c.cube_count-count.ensures.over))
