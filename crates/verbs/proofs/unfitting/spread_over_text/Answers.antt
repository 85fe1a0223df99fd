use Rattle.std.proofs.Common.{subst}
use Rattle.verbs.specs.Fitting.{IsOfWords}
use Rattle.verbs.proofs.FittedLemmas.{no_profile}
use Rattle.verbs.proofs.unfitting.spread_over_text.Goals as goal

pub spread_by_whole-requires : goal.spread_by_whole-requires
spread_by_whole-requires g c = record { not_profile = no_profile c.args.text.now c.profile_is_read.ensures (subst (IsOfWords c.args.text.now) c.in-None.is c.in_ok-wide.ensures.read) }
