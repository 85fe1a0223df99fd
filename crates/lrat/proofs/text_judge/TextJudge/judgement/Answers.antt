use Rattle.std.proofs.Common.{sym, subst}
use Rattle.lrat.specs.HintedProofs.{read_text_lrat}
use Rattle.lrat.specs.TextJudges.{TextJudge, EndsText}
use Rattle.lrat.proofs.TextJudgeLemmas.{reads_text}
use Rattle.lrat.proofs.text_judge.TextJudge.judgement.Goals as goal

pub returns : goal.returns
returns c f text h =
    let now : TextJudge = record { reader = c.self.inside.reader; line = c.self.inside.line; place = c.self.inside.place; word = c.self.inside.word } in
    let e : EndsText f now text = subst (λ (x : TextJudge). EndsText f x text) (sym c.self.view_is) h in
    c.finish.ensures f e.marks (read_text_lrat f.variables text) e.words (reads_text f now text e)
