use Rattle.std.proofs.Common.{◌≡◌, ◌<◌, true, false, length, refl, sym, subst, ◌∙◌}
use Rattle.std.specs.Prelude.{All, nat_lt, Some}
use Rattle.std.specs.Option.{is_some}
use Rattle.drup.specs.declared.hints.Finding.TheVariants as finding
use Rattle.drup.specs.declared.judgement.Judgement.TheVariants as judgement
use Rattle.drup.specs.Named.{clause_of}
use Rattle.drup.specs.Hints.{negated, follow, addition, ended}
use Rattle.drup.specs.HintedJudges.{HintedJudge, LeadsHinted}
use Rattle.drup.proofs.NamedLemmas.{fresh_more, fresh_still}
use Rattle.drup.proofs.HintedLemmas.{leads_derived, leads_kept}
use Rattle.drup.proofs.hinted_judge.HintedJudge.take_shown.Goals as goal

pub invariant_of-self-in-Ok : goal.invariant_of-self-in-Ok
invariant_of-self-in-Ok c = record {
  named = c.in-Ok.ensures.named _ c.self.invariant.named (subst (λ (j : HintedJudge). All (λ l. l < j.limit) c.args.clause.now) (sym c.self.view_is) c.requires.below);
  even = c.self.invariant.even;
  none = c.self.invariant.none;
  fresh = fresh_more c.self.inside.named c.insert.new.self c.self.inside.last c.args.id c.args.clause.now (λ i. c.in-Ok.ensures.ok _ i c.self.invariant.named) (subst (λ (j : HintedJudge). j.last < c.args.id) (sym c.self.view_is) c.requires.above) c.self.invariant.fresh;
  held = λ ok. c.in-Ok.ensures.tight _ c.self.invariant.named (c.self.invariant.held ok);
}

pub invariant_of-self-in-Err : goal.invariant_of-self-in-Err
invariant_of-self-in-Err c = record {
  named = c.in-Err.ensures.named _ c.self.invariant.named (subst (λ (j : HintedJudge). All (λ l. l < j.limit) c.args.clause.now) (sym c.self.view_is) c.requires.below);
  even = c.self.invariant.even;
  none = c.self.invariant.none;
  fresh = fresh_still c.self.inside.named c.insert.new.self c.self.inside.last c.args.id c.in-Err.ensures.err (subst (λ (j : HintedJudge). j.last < c.args.id) (sym c.self.view_is) c.requires.above) c.self.invariant.fresh;
  held = λ ok. absurd (cc);
}

pub returns-in-Ok-clause-held : goal.returns-in-Ok-clause-held
returns-in-Ok-clause-held c ok = c.in-Ok.ensures.tight _ c.self.invariant.named (c.self.invariant.held ok)

pub returns-in-Ok-clause-leads : goal.returns-in-Ok-clause-leads
returns-in-Ok-clause-leads c hints =
    let new : HintedJudge = record { named = c.insert.new.self; limit = length c.self.inside.trail.marks; last = c.args.id; found = c.self.inside.found; failed = c.self.inside.failed } in
    subst (λ (j : HintedJudge). is_some j.found ≡ false → nat_lt j.last c.args.id ≡ true → follow (clause_of j.named) (negated c.args.clause.now) hints ≡ finding.Falsified → LeadsHinted j (ended c.args.line (addition c.args.id c.args.clause.now hints)) new)
    c.self.view_is
    (λ is low shown. leads_kept (record { named = c.self.inside.named; limit = length c.self.inside.trail.marks; last = c.self.inside.last; found = c.self.inside.found; failed = c.self.inside.failed }) new c.args.id c.args.line c.args.clause.now hints is low shown
    (sym c.is_nothing.ensures ∙ c.if-is_nothing.false)
    (λ ok. (ok, λ i. c.in-Ok.ensures.ok _ i c.self.invariant.named)) refl refl)

pub returns-in-Err-clause-leads : goal.returns-in-Err-clause-leads
returns-in-Err-clause-leads c hints is low shown ok = absurd (cc)

pub returns-then-is_nothing-clause-leads : goal.returns-then-is_nothing-clause-leads
returns-then-is_nothing-clause-leads c hints =
    let old : HintedJudge = record { named = c.self.inside.named; limit = length c.self.inside.trail.marks; last = c.self.inside.last; found = c.self.inside.found; failed = c.self.inside.failed } in
    subst (λ (j : HintedJudge). is_some j.found ≡ false → nat_lt j.last c.args.id ≡ true → follow (clause_of j.named) (negated c.args.clause.now) hints ≡ finding.Falsified
    → LeadsHinted j (ended c.args.line (addition c.args.id c.args.clause.now hints)) (record old { found = Some (judgement.Derived c.args.line) }))
    c.self.view_is
    (λ is low shown. leads_derived old c.args.id c.args.line c.args.clause.now hints is low shown (sym c.is_nothing.ensures ∙ c.if-is_nothing.true))

pub insert-requires : goal.insert-requires
insert-requires c = record { fresh = c.self.invariant.fresh c.args.id (subst (λ (j : HintedJudge). j.last < c.args.id) (sym c.self.view_is) c.requires.above) }
