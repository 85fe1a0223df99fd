use Rattle.verbs.proofs.FitLemmas.{ends_still, unfits_whole, unfits_words}
use Rattle.verbs.proofs.fits.LoweredFit.unfit.Goals as goal

pub returns-in-Words-clause-unfitted : goal.returns-in-Words-clause-unfitted
returns-in-Words-clause-unfitted g c = rw c.in-Words.is (unfits_words c.unfit_ready.result c.args.named c.args.self.now.text.items c.as_slice-text.result.now c.args.self.now.model c.in-Words.ready c.args.witness.now _ _ c.as_slice-text.ensures.value c.unfit_ready.ensures.unfitted)

pub returns-in-Words-clause-ends : goal.returns-in-Words-clause-ends
returns-in-Words-clause-ends g c = ends_still c.unfit_ready.ensures.ends

pub returns-in-Whole-clause-unfitted : goal.returns-in-Whole-clause-unfitted
returns-in-Whole-clause-unfitted g c = rw c.in-Whole.is (unfits_whole c.unfit_whole.result c.args.named c.args.self.now.text.items c.args.self.now.model c.in-Whole.whole c.args.witness.now _ _ (rw c.model.ensures at c.unfit_whole.ensures.unfitted))

pub returns-in-Whole-clause-ends : goal.returns-in-Whole-clause-ends
returns-in-Whole-clause-ends g c = ends_still c.unfit_whole.ensures.ends
