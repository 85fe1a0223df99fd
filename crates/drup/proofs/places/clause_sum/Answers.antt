use Rattle.std.proofs.Common.{sym, ap, ◌∙◌}
use Rattle.drup.specs.Places.{clause_sum}
use Rattle.drup.proofs.PlacesLemmas.{clause_sum-alike}
use Rattle.drup.proofs.places.clause_sum.Goals as goal

pub returns : goal.returns
returns c = c.rising_sum.ensures ∙ ap clause_sum c.deref.ensures.value ∙ sym (clause_sum-alike c.args.clause.now c.in_ok-literals.literals.items c.in_ok-literals.ensures.same)
