use Rattle.std.proofs.Common.{ℕ, List, Option, IfOk, IfSome, subst}
use Rattle.witness.specs.Judgements.{Judges}
use Rattle.spread.specs.Spread.{IsShort}
use Rattle.spread.proofs.SourceLemmas.{same_source}
use Rattle.spread.proofs.judging.judge_spread.Goals as goal

pub returns-clause-judged : goal.returns-clause-judged
returns-clause-judged g c = λ wide of.
    subst (λ (o : Option (List ℕ)). IfOk c.judge_spread_by.result (λ judgement. IfSome o (λ text. IsShort text → Judges wide text judgement))) (same_source (g.S.Source.to_come c.args.source.now)) (c.judge_spread_by.ensures.judged wide of)
