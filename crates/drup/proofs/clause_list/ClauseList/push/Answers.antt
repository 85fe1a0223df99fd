use Rattle.std.proofs.Common.{◌≡◌, ℕ, List, [], ◌∷◌, ◌++◌, ap, ◌∙◌, arith}
use Rattle.drup.proofs.ClauseListLemmas.{one_clause_more}
use Rattle.drup.proofs.clause_list.ClauseList.push.Goals as goal

pub invariant_of-self-2 : goal.invariant_of-self-2
invariant_of-self-2 c =
    let ends : c.push.new.self.items ≡ c.self.inside.ends.items ++ c.len.result ∷ [] = c.in-Ok.ensures.items ∙ ap (λ (es : List ℕ). es ++ c.len.result ∷ []) c.reserve.ensures.items in
    (one_clause_more c.self.inside.literals.items c.args.clause.now c.self.inside.ends.items c.extend_from_slice.new.self.items c.push.new.self.items c.len.result c.in_ok-extend_from_slice.ensures.items ends (omega arith) c.self.invariant).0

pub returns-clause-ok : goal.returns-clause-ok
returns-clause-ok c =
    let ends : c.push.new.self.items ≡ c.self.inside.ends.items ++ c.len.result ∷ [] = c.in-Ok.ensures.items ∙ ap (λ (es : List ℕ). es ++ c.len.result ∷ []) c.reserve.ensures.items in
    (one_clause_more c.self.inside.literals.items c.args.clause.now c.self.inside.ends.items c.extend_from_slice.new.self.items c.push.new.self.items c.len.result c.in_ok-extend_from_slice.ensures.items ends (omega arith) c.self.invariant).1
    ∙ ap (λ (cs : List (List ℕ)). cs ++ c.args.clause.now ∷ []) c.self.view_is
