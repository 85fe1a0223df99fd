use Rattle.std.proofs.Common.{◌≡◌, ℕ, List, [], ◌∷◌, ◌++◌, length, ap, ap₂, ◌∙◌, arith}
use Rattle.drup.specs.declared.clauses.Stretch.{Stretch}
use Rattle.drup.specs.Flat.{stretched}
use Rattle.drup.proofs.FlatLemmas.{stretched-add}
use Rattle.drup.proofs.clauses.Clauses.push.Goals as goal

pub returns-clause-ok : goal.returns-clause-ok
returns-clause-ok c =
    let literals = c.self.inside.literals.items in
    let stretches : c.push.new.self.items ≡ c.self.inside.stretches.items ++ record { start = c.len-start.result; end = c.len-end.result } ∷ [] =
    c.in-Ok.ensures.items ∙ ap (λ (xs : List Stretch). xs ++ record { start = c.len-start.result; end = c.len-end.result } ∷ []) c.reserve.ensures.items in
    let longer : c.extend_from_slice.new.self.items ≡ literals ++ c.args.clause.now = c.in_ok-extend_from_slice.ensures.items in
    let start : c.len-start.result ≡ length literals = omega arith in
    let end' : c.len-end.result ≡ length (literals ++ c.args.clause.now) = omega (arith, ap length longer) in
    ap₂ stretched longer (stretches ∙ ap₂ (λ (s e : ℕ). c.self.inside.stretches.items ++ record { start = s; end = e } ∷ []) start end')
    ∙ stretched-add literals c.args.clause.now c.self.inside.stretches.items c.self.invariant
    ∙ ap (λ (cs : List (List ℕ)). cs ++ c.args.clause.now ∷ []) c.self.view_is
