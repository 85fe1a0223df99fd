use Rattle.std.proofs.Common.{arith, ◌+◌, ◌<◌, length, refl, sym, subst, ◌∙◌}
use Rattle.std.specs.Prelude.{All}
use Rattle.drup.specs.HintedJudges.{HintedJudge, BeginsHinted}
use Rattle.drup.proofs.NamedLemmas.{fresh_more, fresh_still}
use Rattle.drup.proofs.HintedLemmas.{begins_kept}
use Rattle.drup.proofs.hinted_judge.HintedJudge.give.Goals as goal

pub invariant_of-self-in-Ok : goal.invariant_of-self-in-Ok
invariant_of-self-in-Ok c = record {
  named = c.in-Ok.ensures.named _ c.self.invariant.named (subst (λ (j : HintedJudge). All (λ l. l < j.limit) c.args.clause.now) (sym c.self.view_is) c.requires);
  even = c.self.invariant.even;
  none = c.self.invariant.none;
  fresh = fresh_more c.self.inside.named c.insert.new.self c.self.inside.last (c.self.inside.last + 1) c.args.clause.now (λ i. c.in-Ok.ensures.ok _ i c.self.invariant.named) (omega arith) c.self.invariant.fresh;
  held = λ ok. c.in-Ok.ensures.tight _ c.self.invariant.named (c.self.invariant.held ok);
}

pub invariant_of-self-in-Err : goal.invariant_of-self-in-Err
invariant_of-self-in-Err c = record {
  named = c.in-Err.ensures.named _ c.self.invariant.named (subst (λ (j : HintedJudge). All (λ l. l < j.limit) c.args.clause.now) (sym c.self.view_is) c.requires);
  even = c.self.invariant.even;
  none = c.self.invariant.none;
  fresh = fresh_still c.self.inside.named c.insert.new.self c.self.inside.last (c.self.inside.last + 1) c.in-Err.ensures.err (omega arith) c.self.invariant.fresh;
  held = λ ok. absurd (cc);
}

pub returns-in-Ok-clause-held : goal.returns-in-Ok-clause-held
returns-in-Ok-clause-held c ok = c.in-Ok.ensures.tight _ c.self.invariant.named (c.self.invariant.held ok)

pub returns-in-Ok-clause-begins : goal.returns-in-Ok-clause-begins
returns-in-Ok-clause-begins c f b =
    let old : HintedJudge = record { named = c.self.inside.named; limit = length c.self.inside.trail.marks; last = c.self.inside.last; found = c.self.inside.found; failed = c.self.inside.failed } in
    begins_kept f c.args.clause.now old (record { named = c.insert.new.self; limit = length c.self.inside.trail.marks; last = c.self.inside.last + 1; found = c.self.inside.found; failed = c.self.inside.failed })
    (sym c.is_some.ensures ∙ c.if-is_some.false) (sym c.is_nothing.ensures ∙ c.if-is_nothing.false) refl
    (λ ok. (ok, λ i. c.in-Ok.ensures.ok _ i c.self.invariant.named, refl))
    (subst (BeginsHinted f) (sym c.self.view_is) b)
