use Rattle.verbs.proofs.FittedLemmas.{fits_both}
use Rattle.verbs.proofs.fitted.read_fitted_and_whole.Goals as goal

pub returns-clause-fits : goal.returns-clause-fits
returns-clause-fits g c = fits_both c.fit_and_keep.result (g.A.Source.to_come c.args.first.now) c.as_slice.result.now (rw c.as_slice.ensures.value c.in_ok-text.ensures.bytes) c.fit_and_keep.ensures.fits c.texts_are_read.ensures.same
