use Rattle.std.proofs.Common.{refl, ◌∙◌}
use Rattle.std.proofs.lemmas.Result.{IfOk-weaker}
use Rattle.vectors.proofs.DifferingLemmas.{noted_more}
use Rattle.vectors.proofs.judging.note_by.Goals as goal

pub returns-clause-noted : goal.returns-clause-noted
returns-clause-noted c =
    IfOk-weaker c.note_alike.result _ _ (λ rest noted. noted ∙ noted_more _ _ _ c.args.first.now c.args.vectors.now c.in_ok-note.ensures.noted refl) c.note_alike.ensures.noted
