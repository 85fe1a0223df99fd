use Rattle.std.proofs.Common.{◌≡◌, ℕ, true, false, map, ap, sym, ◌∙◌}
use Rattle.std.specs.List.{list_all, range_with_len}
use Rattle.aiger.specs.Net.{variables}
use Rattle.aiger.specs.Circuit.{net, name_of}
use Rattle.witness_circuits.specs.Mapping.{shared_literal, is_inside}
use Rattle.witness_circuits.proofs.NameLemmas.{all_more, one_fails}
use Rattle.witness_circuits.proofs.mapping.are_said_inside.Goals as goal

pub returns-then-not-is_inside : goal.returns-then-not-is_inside
returns-then-not-is_inside c =
    let circuit = c.args.circuit.now in
    let said = λ (position : ℕ). shared_literal c.args.numbering.now (name_of c.args.witness.now c.args.section position) in
    let here : is_inside (variables (net circuit)) (said c.loop-position.position) ≡ false =
    ap (is_inside (variables (net circuit))) (sym c.shared_literal.ensures) ∙ (sym c.is_inside.ensures ∙ cc) in
    sym (one_fails (is_inside (variables (net circuit))) said c.count-position-end.result c.loop-position.position c.loop-position-test.true here)
    ∙ ap (λ (n : ℕ). list_all (is_inside (variables (net circuit))) (map said (range_with_len 0 n))) c.count-position-end.ensures.count

pub loop-position-preserved : goal.loop-position-preserved
loop-position-preserved c =
    let circuit = c.args.circuit.now in
    let said = λ (position : ℕ). shared_literal c.args.numbering.now (name_of c.args.witness.now c.args.section position) in
    let here : is_inside (variables (net circuit)) (said c.loop-position.position) ≡ true =
    ap (is_inside (variables (net circuit))) (sym c.shared_literal.ensures) ∙ (sym c.is_inside.ensures ∙ cc) in
    all_more (is_inside (variables (net circuit))) said c.loop-position.position c.loop-position.invariant here
