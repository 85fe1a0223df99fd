use Rattle.std.proofs.Common.{ℕ, List, Bor}
use Rattle.std.specs.Prelude.{option_map}
use Rattle.verbs.proofs.WholeLemmas.{judged_over_all, refused_with_all}
use Rattle.verbs.proofs.judging_whole.judge_fitted_for.Goals as goal

pub returns-clause-judged : goal.returns-clause-judged
returns-clause-judged g c =
    judged_over_all c.judge_for_text.result (option_map (λ (word : Bor (List ℕ)). word.now) c.args.word) (g.A.Source.to_come c.args.first.now) (g.B.Source.to_come c.args.second.now) c.as_slice.result.now (rw c.as_slice.ensures.value c.in_ok-text.ensures.bytes) c.judge_for_text.ensures.judged

pub returns-clause-refused : goal.returns-clause-refused
returns-clause-refused g c =
    refused_with_all c.judge_for_text.result (option_map (λ (word : Bor (List ℕ)). word.now) c.args.word) (g.A.Source.to_come c.args.first.now) c.as_slice.result.now (rw c.as_slice.ensures.value c.in_ok-text.ensures.bytes) c.judge_for_text.ensures.refused
