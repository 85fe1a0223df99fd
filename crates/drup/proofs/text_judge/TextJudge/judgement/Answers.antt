use Rattle.std.proofs.Common.{sym, subst}
use Rattle.drup.specs.Proofs.{read_text_proof}
use Rattle.drup.specs.TextJudges.{TextJudge, EndsText}
use Rattle.drup.proofs.TextJudgeLemmas.{reads_text}
use Rattle.drup.proofs.text_judge.TextJudge.judgement.Goals as goal

pub returns : goal.returns
returns c f text s =
    let e : EndsText f (record { reader = c.self.inside.reader; variables = c.self.inside.variables; line = c.self.inside.line; place = c.self.inside.place; word = c.self.inside.word }) text = subst (λ (x : TextJudge). EndsText f x text) (sym c.self.view_is) (c.end_text.ensures f text s) in
    c.finish.ensures.judges f e.marks (read_text_proof f.variables text) e.words (reads_text f (record { reader = c.self.inside.reader; variables = c.self.inside.variables; line = c.self.inside.line; place = c.self.inside.place; word = c.self.inside.word }) text e)
