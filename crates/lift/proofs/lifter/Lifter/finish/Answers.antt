use Rattle.std.proofs.Common.{subst, sym}
use Rattle.lift.specs.Stands.{Lifter, LiftsWith}
use Rattle.lift.proofs.lifter.Lifter.finish.Goals as goal

pub returns-clause-judged : goal.returns-clause-judged
returns-clause-judged c named items circuit text h =
    let k = subst (λ (l : Lifter). LiftsWith named items circuit l text) (sym c.self.view_is) h in
    c.finish.ensures.judged named circuit text k.notes

pub returns-clause-firsts : goal.returns-clause-firsts
returns-clause-firsts c named items circuit text h on =
    let k = subst (λ (l : Lifter). LiftsWith named items circuit l text) (sym c.self.view_is) h in
    c.finish.ensures.firsts named circuit text k.notes on
