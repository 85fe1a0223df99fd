use Rattle.std.proofs.Common.{refl, sym}
use Rattle.fulltext.specs.Spelling.{StandsForFull}
use Rattle.verbs.specs.Fits.{narrow_in}
use Rattle.verbs.proofs.CountLemmas.{handed_on}
use Rattle.verbs.proofs.FitLemmas.{found_into_first, not_claimed_found}
use Rattle.verbs.proofs.FittedLemmas.{seen}
use Rattle.verbs.proofs.lifting_fitted.lift_found_lowered.Goals as goal

pub returns-in-Ok-clause-lifted : goal.returns-in-Ok-clause-lifted
returns-in-Ok-clause-lifted g c = λ known l.
    rw c.found_lifted.ensures (record {
      stands = seen (λ t. StandsForFull t c.args.lowered.model) known c.args.lowered.text.items l.text l.stands;
      gives = l.gives;
      is_claim = c.in-Ok.ensures.lifts.0;
      accepted = c.in-Ok.ensures.lifts.1.0;
      lifts = found_into_first c.args.named known c.args.lowered.text.items c.args.lowered.model (narrow_in c.args.lowered.fit) l.gives.narrow c.args.lowered.circuit c.in-Ok.claim _ _ _ c.in-Ok.told l.text (sym l.narrow) c.in-Ok.ensures.lifts.1.1;
    })

pub returns-in-Ok-clause-ends : goal.returns-in-Ok-clause-ends
returns-in-Ok-clause-ends g c = record { counted = λ f e. (refl, (c.in-Ok.ensures.ends.counted 0 0).1, (c.in-Ok.ensures.ends.counted 0 0).2, refl); unwritten = tt; untold = tt }

pub returns-in-Err-clause-refused : goal.returns-in-Err-clause-refused
returns-in-Err-clause-refused g c = λ known l. not_claimed_found c.args.choice known c.args.lowered.circuit c.in-Err.refusal l.gives c.in-Err.ensures.refused

pub returns-in-Err-clause-ends : goal.returns-in-Err-clause-ends
returns-in-Err-clause-ends g c = handed_on refl c.in-Err.ensures.ends
