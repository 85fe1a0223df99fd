use Rattle.std.proofs.Common.{ℕ, ap, sym, subst, ◌∙◌}
use Rattle.spread.specs.Passing.{told}
use Rattle.spread.specs.Stands.{Spreader, EndsFor}
use Rattle.spread.proofs.SpreaderLemmas.{line_number}
use Rattle.spread.proofs.spreader.Spreader.finish.Goals as goal

pub returns : goal.returns
returns c shape narrow text h =
    let k = subst (λ (s : Spreader). EndsFor shape narrow s text) (sym c.self.view_is) h in
    record {
      passed = c.finish-judgement.result;
      judged = c.finish-judgement.ensures.judged narrow _ k.judge;
      is = c.told.ensures shape (c.widths.ensures ∙ k.states) ∙ ap (λ (n : ℕ). told shape n c.finish-judgement.result) (line_number shape text c.self.inside.admitted c.saturating_add-line.result k.admitted c.saturating_add-line.ensures);
    }
