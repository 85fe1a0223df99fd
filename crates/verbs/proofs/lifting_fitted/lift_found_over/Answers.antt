use Rattle.std.proofs.Common.{ℕ, List, refl, subst}
use Rattle.blast.specs.Lowering.{Lowers}
use Rattle.btor2.specs.declared.item.Item.{Item}
use Rattle.verbs.proofs.CountLemmas.{as_is, as_was, ends_as, handed_on, idle, of_no_input, unfailed}
use Rattle.verbs.proofs.FitLemmas.{lifts_found_over, told_ends}
use Rattle.verbs.proofs.lifting_fitted.lift_found_over.Goals as goal

pub lift_restored-restored-requires : goal.lift_restored-restored-requires
lift_restored-restored-requires g c =
    let l = c.requires.lowered.1 in
    record { lowers = rw c.narrow.ensures (subst (λ (m : List Item). Lowers m c.args.lowered.now.circuit) l.narrow l.gives.lowers); claim = c.requires.claim }

pub unfit_restored-requires : goal.unfit_restored-requires
unfit_restored-requires g c =
    let l = c.requires.lowered.1 in
    record { stands = l.stands; fit = l.fit }

pub returns-in-Ok-clause-lifts : goal.returns-in-Ok-clause-lifts
returns-in-Ok-clause-lifts g c =
    lifts_found_over c.unfit_restored.result c.args.named c.args.lowered.now c.args.claim c.narrow.result.now _ _ _ _ _ c.bytes.result.now c.in-Ok.restored c.narrow.ensures c.new-held.ensures.empty c.bytes.ensures c.in-Ok.ensures.of_text
    (rw c.in-Ok.ensures.told c.lift_restored-restored.ensures.lifts) c.unfit_restored.ensures.unfits

pub returns-in-Ok-clause-ends : goal.returns-in-Ok-clause-ends
returns-in-Ok-clause-ends g c = ends_as as_is (unfailed (c.in-Ok.ensures.counted 0 _ _ _ _ 0 0 c.lift_restored-restored.ensures.counted).1) as_was as_was c.unfit_restored.ensures.ends

pub returns-clause-refused : goal.returns-clause-refused
returns-clause-refused g c = of_no_input ℕ c.in-Err.refusal _ c.in-Err.ensures.no_input

pub returns-clause-ends : goal.returns-clause-ends
returns-clause-ends g c = ends_as as_is as_is idle as_was (handed_on {T = ℕ} refl (told_ends c.in-Err.refusal c.in-Err.ensures.no_input (λ f o e. c.in-Err.ensures.counted f _ _ _ _ o e c.lift_restored-restored.ensures.counted)))
