use Rattle.verbs.proofs.FittedLemmas.{fits_first}
use Rattle.verbs.proofs.fitted.read_fitted.Goals as goal

pub returns-clause-fits : goal.returns-clause-fits
returns-clause-fits g c = fits_first c.fit_text.result (g.A.Source.to_come c.args.first.now) c.as_slice.result.now (rw c.as_slice.ensures.value c.in_ok-text.ensures.bytes) c.fit_text.ensures.fitted
