use Rattle.std.proofs.Common.{sym, subst}
use Rattle.drup.specs.Propagator.{State}
use Rattle.drup.specs.Without.{IsWithout}
use Rattle.drup.proofs.AlikeLemmas.{without_alike}
use Rattle.drup.proofs.propagator.Propagator.delete.Goals as goal

pub returns-clause-left : goal.returns-clause-left
returns-clause-left c =
    subst (λ (s : State). IsWithout c.args.self.now.clauses c.args.clause.now s.clauses) (sym c.sweep.ensures)
    (without_alike c.args.self.now.clauses c.args.clause.now c.put_in_order.new.literals c.take_away.new.self.clauses c.put_in_order.ensures.same c.take_away.ensures.left)
