use Rattle.verbs.proofs.WholeLemmas.{over_all, refused_over_all}
use Rattle.verbs.proofs.unfitting.judge_fitted.Goals as goal

pub returns-clause-judged : goal.returns-clause-judged
returns-clause-judged g c = over_all c.judge_over_text.result (g.A.Source.to_come c.args.first.now) c.as_slice.result.now (g.B.Source.to_come c.args.second.now) (rw c.as_slice.ensures.value c.in_ok-text.ensures.bytes) c.judge_over_text.ensures.judged

pub returns-clause-refused : goal.returns-clause-refused
returns-clause-refused g c = refused_over_all c.judge_over_text.result (g.A.Source.to_come c.args.first.now) c.as_slice.result.now (rw c.as_slice.ensures.value c.in_ok-text.ensures.bytes) c.judge_over_text.ensures.refused
