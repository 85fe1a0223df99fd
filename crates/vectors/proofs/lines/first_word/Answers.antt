use Rattle.std.proofs.Common.{refl}
use Rattle.vectors.proofs.NoneLemmas.{below, first_token}
use Rattle.vectors.proofs.lines.first_word.Goals as goal

pub returns-in-None-word-clause-none : goal.returns-in-None-word-clause-none
returns-in-None-word-clause-none c = λ r w n rest lt e.
    c.in-None-word.ensures.none refl n lt (first_token c.args.line.now c.in-Some.token.now c.in-Some.behind.now rest n (below _ n w lt) c.in-Some.ensures.0 c.in-Some.ensures.1 e).0
