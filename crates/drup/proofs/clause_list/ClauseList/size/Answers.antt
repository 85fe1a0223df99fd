use Rattle.std.proofs.Common.{ap, arith}
use Rattle.drup.specs.ClauseLists.{literal_count}
use Rattle.drup.proofs.ClauseListLemmas.{count_all}
use Rattle.drup.proofs.clause_list.ClauseList.size.Goals as goal

pub returns : goal.returns
returns c = omega (arith, c.len.ensures, count_all c.self.inside.literals.items c.self.inside.ends.items c.self.invariant, ap literal_count c.self.view_is)
