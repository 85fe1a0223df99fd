use Rattle.std.proofs.Common.{◌≡◌, refl, sym, ◌∙◌, arith}
use Rattle.std.proofs.lemmas.Bool.{false≢true}
use Rattle.vectors.proofs.NoneLemmas.{first_token, same_decimal}
use Rattle.vectors.proofs.lines.first_width.Goals as goal

pub returns-in-None-new-clause-none : goal.returns-in-None-new-clause-none
returns-in-None-new-clause-none c = λ r n rest low high e.
    let same = first_token c.args.line.now c.in-Some.token.now c.in-Some.behind.now rest n (omega arith) c.in-Some.ensures.0 c.in-Some.ensures.1 e in
    let is : c.in-Some-number.bits ≡ n = same_decimal _ _ c.in-Some-number.ensures.fits (omega arith) (sym c.in-Some-number.ensures.written ∙ same.0) in
    false≢true (c.in-None-new.ensures.allowed.1 (omega arith, omega arith))

pub returns-in-None-number-clause-none : goal.returns-in-None-number-clause-none
returns-in-None-number-clause-none c = λ r n rest low high e.
    let same = first_token c.args.line.now c.in-Some.token.now c.in-Some.behind.now rest n (omega arith) c.in-Some.ensures.0 c.in-Some.ensures.1 e in
    c.in-None-number.ensures.none refl n (omega arith) same.0
