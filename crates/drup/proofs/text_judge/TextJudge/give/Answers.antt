use Rattle.std.proofs.Common.{ℕ, ◌+◌, ◌*◌, ◌<◌, ap, sym, subst, ◌∙◌}
use Rattle.std.specs.Prelude.{All}
use Rattle.drup.specs.TextJudges.{TextJudge, BeginsText}
use Rattle.drup.proofs.text_judge.TextJudge.give.Goals as goal

pub give-requires : goal.give-requires
give-requires c = subst (λ (n : ℕ). All (λ l. l < n) c.args.clause.now) (sym (c.self.invariant.limit ∙ ap (λ (x : TextJudge). 2 * x.variables + 2) c.self.view_is)) c.requires

pub returns-clause-stands : goal.returns-clause-stands
returns-clause-stands c f b =
    let old : BeginsText f (record { reader = c.self.inside.reader; variables = c.self.inside.variables; line = c.self.inside.line; place = c.self.inside.place; word = c.self.inside.word }) = subst (BeginsText f) (sym c.self.view_is) b in
    record { reader = c.give.ensures.begins f old.reader; variables = old.variables; line = old.line; place = old.place; word = old.word }
