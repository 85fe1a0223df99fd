use Rattle.std.proofs.Common.{length, ap, sym, subst, ◌∙◌}
use Rattle.std.specs.Option.{is_some}
use Rattle.drup.specs.HintedJudges.{HintedJudge, StandsForHinted}
use Rattle.drup.proofs.HintedLemmas.{refused_open, refused_found}
use Rattle.drup.proofs.hinted_judge.HintedJudge.refuse.Goals as goal

pub returns-then-is_some-clause-judged : goal.returns-then-is_some-clause-judged
returns-then-is_some-clause-judged c f steps s =
    refused_found f steps (record { line = c.args.line; why = c.args.why }) c.args.self.now (ap (λ (j : HintedJudge). is_some j.found) (sym c.self.view_is) ∙ sym c.is_some.ensures ∙ c.if-is_some.true) s

pub returns-clause-judged : goal.returns-clause-judged
returns-clause-judged c f steps s =
    refused_open f steps (record { line = c.args.line; why = c.args.why }) (record { named = c.self.inside.named; limit = length c.self.inside.trail.marks; last = c.self.inside.last; found = c.self.inside.found; failed = c.self.inside.failed }) (sym c.is_some.ensures ∙ c.if-is_some.false) (subst (StandsForHinted f steps) (sym c.self.view_is) s)
