use Rattle.std.proofs.Common.{ℕ, List, Bor, Some}
use Rattle.std.specs.Prelude.{option_map}
use Rattle.verbs.proofs.WholeLemmas.{judged_over_profile, not_fitted_profile}
use Rattle.verbs.proofs.judging_whole.judge_for_profile.Goals as goal

pub returns-in-Ok-clause-judged : goal.returns-in-Ok-clause-judged
returns-in-Ok-clause-judged g c =
    let h = c.in-Ok.ensures.judged in
    judged_over_profile (option_map (λ (word : Bor (List ℕ)). word.now) c.args.word) (Some c.args.text.now) (g.B.Source.to_come c.args.second.now) c.in-Ok.judged (h.1 (Some c.args.text.now) c.requires.stands)

pub returns-in-Err-clause-refused : goal.returns-in-Err-clause-refused
returns-in-Err-clause-refused g c =
    not_fitted_profile (option_map (λ (word : Bor (List ℕ)). word.now) c.args.word) (Some c.args.text.now) c.args.model c.in-Err.refusal c.requires.stands c.requires.ready c.in-Err.ensures.refused
