use Rattle.std.proofs.Common.{false, length, refl, sym, subst, ◌∙◌}
use Rattle.std.specs.Prelude.{◌||◌}
use Rattle.std.proofs.lemmas.Bool.{or_parts}
use Rattle.drup.specs.Hints.{deletion, ended}
use Rattle.drup.specs.Named.{IsTight}
use Rattle.drup.specs.HintedJudges.{HintedJudge, StandsForHinted}
use Rattle.drup.proofs.NamedLemmas.{fresh_without, on_no_err}
use Rattle.drup.proofs.HintedLemmas.{stands_step, leads_deleted}
use Rattle.drup.proofs.hinted_judge.HintedJudge.delete.Goals as goal

pub sweep-swept-requires : goal.sweep-swept-requires
sweep-swept-requires c = (length c.self.inside.trail.marks, c.remove.ensures.named _ c.self.invariant.named)

pub invariant_of-self : goal.invariant_of-self
invariant_of-self c = record {
  named = c.sweep-swept.ensures.named _ (c.remove.ensures.named _ c.self.invariant.named);
  even = c.self.invariant.even;
  none = c.self.invariant.none;
  fresh = fresh_without c.self.inside.named c.remove.new.self c.sweep-swept.new.self c.self.inside.last c.args.id c.remove.ensures.without c.sweep-swept.ensures.same c.self.invariant.fresh;
  held = λ ok. on_no_err c.sweep-swept.result (IsTight c.sweep-swept.new.self) c.sweep-swept.ensures.tight (sym c.is_err.ensures.value ∙ (or_parts c.self.inside.failed c.is_err.result ok).1);
}

pub returns-clause-held : goal.returns-clause-held
returns-clause-held c ok = on_no_err c.sweep-swept.result (IsTight c.sweep-swept.new.self) c.sweep-swept.ensures.tight (sym c.is_err.ensures.value ∙ (or_parts c.self.inside.failed c.is_err.result ok).1)

pub returns-clause-stands : goal.returns-clause-stands
returns-clause-stands c f steps s =
    let old : HintedJudge = record { named = c.self.inside.named; limit = length c.self.inside.trail.marks; last = c.self.inside.last; found = c.self.inside.found; failed = c.self.inside.failed } in
    let new : HintedJudge = record old { named = c.sweep-swept.new.self; failed = c.self.inside.failed || c.is_err.result } in
    stands_step f steps (ended c.args.line (deletion c.args.id)) old new
    (leads_deleted old new c.args.id c.args.line (sym c.is_some.ensures ∙ c.if-is_some.false) (λ ok. (or_parts c.self.inside.failed c.is_err.result ok).0) (λ i. c.sweep-swept.ensures.same i ∙ c.remove.ensures.without i) refl refl)
    (subst (StandsForHinted f steps) (sym c.self.view_is) s)
