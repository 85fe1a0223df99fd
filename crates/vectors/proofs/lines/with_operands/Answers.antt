use Rattle.std.proofs.Common.{◌∷◌, ◌++◌, decimal, sym}
use Rattle.vectors.proofs.NoneLemmas.{below, first_number, same_left}
use Rattle.vectors.proofs.lines.with_operands.Goals as goal

pub returns-in-Some-clause-none : goal.returns-in-Some-clause-none
returns-in-Some-clause-none c = λ none a b r v e.
    let w = c.args.width in
    let same = first_number c.args.line.now c.in-Some.rest.now (decimal b ++ 32 ∷ decimal r) c.in-Some.left a (below w _ v.1 c.in-Some.ensures.fits) (below w a v.1 v.3) c.in-Some.ensures.written e in
    c.with_right.ensures.none none b r (same_left c.args.operator w a c.in-Some.left b r (sym same.0) v) same.1
