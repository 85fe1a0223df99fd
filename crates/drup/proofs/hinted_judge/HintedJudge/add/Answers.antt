use Rattle.std.proofs.Common.{◌≡◌, true, false, sym, ap, subst, ◌∙◌, arith}
use Rattle.std.specs.Prelude.{nat_lt}
use Rattle.std.specs.Option.{is_some}
use Rattle.std.proofs.lemmas.Bool.Decides.{nat_tests}
use Rattle.drup.specs.declared.hints.Finding.TheVariants as finding
use Rattle.drup.specs.Named.{clause_of}
use Rattle.drup.specs.Hints.{negated, follow, addition, ended}
use Rattle.drup.specs.HintedJudges.{HintedJudge, LeadsHinted}
use Rattle.drup.proofs.HintedLemmas.{stands_step}
use Rattle.drup.proofs.hinted_judge.HintedJudge.add.Goals as goal

pub returns-in-Falsified-clause-stands : goal.returns-in-Falsified-clause-stands
returns-in-Falsified-clause-stands c f steps s =
    let is : is_some c.args.self.now.found ≡ false = ap (λ (j : HintedJudge). is_some j.found) (sym c.self.view_is) ∙ sym c.is_some.ensures ∙ c.if-is_some.false in
    let above : nat_lt c.self.inside.last c.args.id ≡ true = grind (arith, nat_tests, c.if-id-self.false) in
    let low : nat_lt c.args.self.now.last c.args.id ≡ true = ap (λ (j : HintedJudge). nat_lt j.last c.args.id) (sym c.self.view_is) ∙ above in
    stands_step f steps (ended c.args.line (addition c.args.id c.args.clause.now c.args.hints.now)) c.args.self.now c.take_shown.new.self
    (subst (λ (j : HintedJudge). is_some j.found ≡ false → nat_lt j.last c.args.id ≡ true → follow (clause_of j.named) (negated c.args.clause.now) c.args.hints.now ≡ finding.Falsified
    → LeadsHinted j (ended c.args.line (addition c.args.id c.args.clause.now c.args.hints.now)) c.take_shown.new.self)
    c.finding.ensures.same (c.take_shown.ensures.leads c.args.hints.now) is low (sym c.in-Falsified.ensures.found))
    s

pub returns-in-Falsified-clause-limit : goal.returns-in-Falsified-clause-limit
returns-in-Falsified-clause-limit c = c.take_shown.ensures.limit ∙ ap (λ (j : HintedJudge). j.limit) c.finding.ensures.same

pub take_shown-requires-clause-above : goal.take_shown-requires-clause-above
take_shown-requires-clause-above c = omega (arith, c.if-id-self.false, ap (λ (j : HintedJudge). j.last) c.finding.ensures.same, ap (λ (j : HintedJudge). j.last) c.self.view_is)
