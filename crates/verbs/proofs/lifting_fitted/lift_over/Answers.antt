use Rattle.std.proofs.Common.{List, refl, subst}
use Rattle.blast.specs.Lowering.{Lowers}
use Rattle.btor2.specs.declared.item.Item.{Item}
use Rattle.verbs.proofs.CountLemmas.{as_is, as_was, ends_as, handed_on, idle, unfailed}
use Rattle.verbs.proofs.FitLemmas.{lifts_over}
use Rattle.verbs.proofs.lifting_fitted.lift_over.Goals as goal

pub lift_held-requires : goal.lift_held-requires
lift_held-requires g c =
    let l = c.requires.lowered.1 in
    record { lowers = subst (λ (m : List Item). Lowers m c.args.lowered.now.circuit) l.narrow l.gives.lowers }

pub unfit_held-requires : goal.unfit_held-requires
unfit_held-requires g c =
    let l = c.requires.lowered.1 in
    record { stands = l.stands; fit = l.fit }

pub returns-in-Ok-clause-lifts : goal.returns-in-Ok-clause-lifts
returns-in-Ok-clause-lifts g c =
    lifts_over c.unfit_held.result c.args.named c.args.lowered.now _ _ _ _ _ c.bytes.result.now c.in-Ok.found c.in-Ok.firsts c.new-held.ensures.empty c.bytes.ensures c.in-Ok.ensures.lifted c.unfit_held.ensures.unfits c.unfit_held.ensures.firsts

pub returns-in-Ok-clause-ends : goal.returns-in-Ok-clause-ends
returns-in-Ok-clause-ends g c = ends_as as_is (unfailed (c.in-Ok.ensures.ends.counted 0 0 0).1) as_was as_was c.unfit_held.ensures.ends

pub returns-clause-ends : goal.returns-clause-ends
returns-clause-ends g c = ends_as as_is as_is idle as_was (handed_on refl c.in-Err.ensures.ends)
