use Rattle.std.proofs.Common.{ℕ, ◌+◌, ◌*◌, ◌<◌, ap, sym, subst, ◌∙◌}
use Rattle.std.specs.Prelude.{All}
use Rattle.lrat.specs.TextJudges.{TextJudge, BeginsText}
use Rattle.lrat.proofs.text_judge.TextJudge.give.Goals as goal

pub give-requires : goal.give-requires
give-requires c = subst (λ (n : ℕ). All (λ l. l < n) c.args.clause.now) (sym (ap (λ (x : TextJudge). 2 * x.reader.variables + 2) c.self.view_is)) c.requires

pub returns-clause-stands : goal.returns-clause-stands
returns-clause-stands c f b =
    let old : BeginsText f (record { reader = c.self.inside.reader; line = c.self.inside.line; place = c.self.inside.place; word = c.self.inside.word }) = subst (BeginsText f) (sym c.self.view_is) b in
    record { reader = c.give.ensures.begins f old.reader; variables = c.give.ensures.variables ∙ old.variables; line = old.line; place = old.place; word = old.word }
