use Rattle.std.proofs.Common.{subst}
use Rattle.verbs.specs.Fitting.{IsOfWords}
use Rattle.verbs.proofs.FittedLemmas.{no_profile}
use Rattle.verbs.proofs.unfitting.judge_over_text.Goals as goal

pub judge_by_whole-requires : goal.judge_by_whole-requires
judge_by_whole-requires g c = record { not_profile = no_profile c.args.text.now c.profile_is_read.ensures (subst (IsOfWords c.args.text.now) c.in-None.is c.in_ok-wide.ensures.read) }
