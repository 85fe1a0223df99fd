use Rattle.std.proofs.Common.{ℕ, List, length, ap, arith}
use Rattle.drup.proofs.ClauseListLemmas.{length-cut_in_turn}
use Rattle.drup.proofs.clause_list.ClauseList.len.Goals as goal

pub returns : goal.returns
returns c = omega (arith, c.len.ensures, length-cut_in_turn c.self.inside.literals.items c.self.inside.ends.items 0, ap (λ (cs : List (List ℕ)). length cs) c.self.view_is)
