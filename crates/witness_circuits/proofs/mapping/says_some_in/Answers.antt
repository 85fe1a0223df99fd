use Rattle.std.proofs.Common.{◌≡◌, ℕ, Option, is_some, true, false, map, ap, sym, ◌∙◌}
use Rattle.std.specs.List.{list_any, range_with_len}
use Rattle.aiger.specs.Circuit.{name_of}
use Rattle.witness_circuits.specs.Mapping.{shared_literal}
use Rattle.witness_circuits.proofs.NameLemmas.{none_more, one_found}
use Rattle.witness_circuits.proofs.mapping.says_some_in.Goals as goal

pub returns-then-is_some : goal.returns-then-is_some
returns-then-is_some c =
    let some = λ (l : Option ℕ). is_some l in
    let said = λ (position : ℕ). shared_literal c.args.numbering.now (name_of c.args.witness.now c.args.section position) in
    let here : some (said c.loop-position.position) ≡ true = ap some (sym c.shared_literal.ensures) ∙ cc in
    sym (one_found some said c.count-position-end.result c.loop-position.position c.loop-position-test.true here)
    ∙ ap (λ (n : ℕ). list_any some (map said (range_with_len 0 n))) c.count-position-end.ensures.count

pub loop-position-preserved : goal.loop-position-preserved
loop-position-preserved c =
    let some = λ (l : Option ℕ). is_some l in
    let said = λ (position : ℕ). shared_literal c.args.numbering.now (name_of c.args.witness.now c.args.section position) in
    let here : some (said c.loop-position.position) ≡ false = ap some (sym c.shared_literal.ensures) ∙ cc in
    none_more some said c.loop-position.position c.loop-position.invariant here
