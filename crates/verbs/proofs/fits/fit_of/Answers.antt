use Rattle.std.proofs.Common.{subst}
use Rattle.verbs.specs.Fitting.{IsOfWords}
use Rattle.verbs.proofs.FittedLemmas.{no_profile}
use Rattle.verbs.proofs.fits.fit_of.Goals as goal

pub fit_by_whole-requires : goal.fit_by_whole-requires
fit_by_whole-requires c = record {
  not_profile = no_profile c.args.text.now c.profile_is_read.ensures (subst (IsOfWords c.args.text.now) c.in-None.is c.in_ok-wide.ensures.read);
  stands = c.requires.stands;
}
