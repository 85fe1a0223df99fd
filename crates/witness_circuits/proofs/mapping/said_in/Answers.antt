use Rattle.std.proofs.Common.{◌∷◌, ◌++◌, [], ℕ, List, Option, map, ap, ap₂, sym, ◌∙◌, arith}
use Rattle.std.specs.List.{list_all, range_with_len}
use Rattle.std.proofs.lemmas.List.FromFn.{map-range_with_len_more}
use Rattle.aiger.specs.Net.{variables}
use Rattle.aiger.specs.Circuit.{net, name_of}
use Rattle.witness_circuits.specs.Mapping.{shared_literal, is_inside}
use Rattle.witness_circuits.proofs.NameLemmas.{one_of_all}
use Rattle.witness_circuits.proofs.mapping.said_in.Goals as goal

pub literal-one-requires : goal.literal-one-requires
literal-one-requires c =
    let circuit = c.args.circuit.now in
    let said = λ (position : ℕ). shared_literal c.args.numbering.now (name_of c.args.witness.now c.args.section position) in
    ap (is_inside (variables (net circuit))) c.shared_literal.ensures
    ∙ one_of_all (is_inside (variables (net circuit))) said c.count-position-end.result c.loop-position.position c.loop-position-test.true
    (ap (λ (n : ℕ). list_all (is_inside (variables (net circuit))) (map said (range_with_len 0 n))) c.count-position-end.ensures.count ∙ c.requires)

pub loop-position-preserved : goal.loop-position-preserved
loop-position-preserved c =
    let said = λ (position : ℕ). shared_literal c.args.numbering.now (name_of c.args.witness.now c.args.section position) in
    c.in-Ok.ensures.items
    ∙ (ap₂ (λ (xs : List (Option ℕ)) (x : Option ℕ). xs ++ x ∷ []) c.loop-position.invariant (c.literal-one.ensures ∙ c.shared_literal.ensures)
    ∙ sym (map-range_with_len_more said 0 c.loop-position.position c.loop-position.position (omega arith)))
