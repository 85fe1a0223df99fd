use Rattle.std.proofs.Common.{[], ◌∷◌, append_assoc, sym, ◌∙◌}
use Rattle.witness.proofs.word_judge.WordJudge.take_any.Goals as goal

pub returns-clause-line : goal.returns-clause-line
returns-clause-line c =
    record {
      line = c.in_ok-line.line.now;
      is = c.in_ok-line.ensures.0 ∙ sym (append_assoc c.in_ok-line.line.now (10 ∷ []) c.in_ok-line.rest.now);
      stands = λ items before stands. c.take_line.ensures items before c.in_ok-line.ensures.1 stands;
    }
