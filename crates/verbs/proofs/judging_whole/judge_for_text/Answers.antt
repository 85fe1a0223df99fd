use Rattle.std.proofs.Common.{subst}
use Rattle.verbs.specs.Fitting.{IsProfileOf}
use Rattle.verbs.proofs.judging_whole.judge_for_text.Goals as goal

pub judge_for_profile-requires : goal.judge_for_profile-requires
judge_for_profile-requires g c =
    let is = subst (IsProfileOf c.args.text.now) c.in-Some.is c.in_ok-model.ensures.read in
    record { stands = is.0; ready = is.1 }

pub judge_for_whole-requires : goal.judge_for_whole-requires
judge_for_whole-requires g c = record { not_profile = subst (IsProfileOf c.args.text.now) c.in-None.is c.in_ok-model.ensures.read }
