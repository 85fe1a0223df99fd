use Rattle.std.proofs.Common.{◌≡◌, sym, ◌∙◌, arith}
use Rattle.vectors.proofs.NoneLemmas.{same_decimal}
use Rattle.vectors.proofs.lines.word.Goals as goal

pub returns-else-number-ones-clause-none : goal.returns-else-number-ones-clause-none
returns-else-number-ones-clause-none c = λ r n lt e.
    let is : c.in-Some.number ≡ n = same_decimal _ _ c.in-Some.ensures.fits (omega arith) (sym c.in-Some.ensures.written ∙ e) in
    absurd (omega arith)
