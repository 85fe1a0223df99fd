use Rattle.std.proofs.Common.{◌≡◌, List, None, refl, subst, sym}
use Rattle.btor2.specs.declared.item.Item.{Item}
use Rattle.blast.specs.Lowering.{Lowers}
use Rattle.blast.specs.Refusal.{lowering_refusal}
use Rattle.verbs.specs.Fits.{narrow_in}
use Rattle.verbs.specs.Refusals.{IsAgainst}
use Rattle.verbs.specs.Statuses.{IfInput}
use Rattle.verbs.proofs.CountLemmas.{as_is, as_was, ends_as, failed, handed_on, unfailed}
use Rattle.verbs.proofs.FittedLemmas.{fits_known, not_fitted}
use Rattle.verbs.proofs.GivenLemmas.{not_lowered_fitted, unfitted}
use Rattle.verbs.proofs.fits.lower_fit_first.Goals as goal

pub returns-in_err-model-clause-refused : goal.returns-in_err-model-clause-refused
returns-in_err-model-clause-refused g c =
    let is = failed c.from_residual-in_err-model.result c.in_err-model.field-0.0 c.from_residual-in_err-model.ensures in
    rw is (unfitted (g.A.Source.to_come c.args.first.now) c.in_err-model.field-0.0 (not_fitted (g.A.Source.to_come c.args.first.now) c.as_slice.result.now c.in_err-model.field-0.0 (rw c.as_slice.ensures.value c.in_ok-text.ensures.bytes) c.in_err-model.ensures.refused))

pub returns-in_err-model-clause-ends : goal.returns-in_err-model-clause-ends
returns-in_err-model-clause-ends g c =
    let is = failed c.from_residual-in_err-model.result c.in_err-model.field-0.0 c.from_residual-in_err-model.ensures in
    ends_as (unfailed c.in_ok-text.ensures.counted) as_is as_was as_was (handed_on is c.in_err-model.ensures.ends)

pub returns-in_err-fit-clause-refused : goal.returns-in_err-fit-clause-refused
returns-in_err-fit-clause-refused g c =
    let is = failed c.from_residual-in_err-fit.result c.in_err-fit.field-0.0 c.from_residual-in_err-fit.ensures in
    rw is (unfitted (g.A.Source.to_come c.args.first.now) c.in_err-fit.field-0.0 (not_fitted (g.A.Source.to_come c.args.first.now) c.as_slice-2.result.now c.in_err-fit.field-0.0 (rw c.as_slice-2.ensures.value c.in_ok-text.ensures.bytes) c.in_err-fit.ensures.refused))

pub returns-in_err-fit-clause-ends : goal.returns-in_err-fit-clause-ends
returns-in_err-fit-clause-ends g c =
    let is = failed c.from_residual-in_err-fit.result c.in_err-fit.field-0.0 c.from_residual-in_err-fit.ensures in
    ends_as (unfailed c.in_ok-text.ensures.counted) as_is as_was as_was (handed_on is c.in_err-fit.ensures.ends)

pub returns-in_err-circuit-clause-refused : goal.returns-in_err-circuit-clause-refused
returns-in_err-circuit-clause-refused g c =
    let is = failed c.from_residual-in_err-circuit.result c.in_err-circuit.field-0.0 c.from_residual-in_err-circuit.ensures in
    let narrow = narrow_in c.in_ok-fit.fit in
    rw is (not_lowered_fitted (g.A.Source.to_come c.args.first.now) narrow c.in_err-circuit.field-0.0 (fits_known (g.A.Source.to_come c.args.first.now) c.as_slice-2.result.now narrow (rw c.as_slice-2.ensures.value c.in_ok-text.ensures.bytes) c.in_ok-fit.ensures.fitted)
    (subst (λ (m : List Item). IfInput (IsAgainst m) c.in_err-circuit.field-0.0) c.narrow_in.ensures c.in_err-circuit.ensures.refused))

pub returns-in_err-circuit-clause-ends : goal.returns-in_err-circuit-clause-ends
returns-in_err-circuit-clause-ends g c =
    let is = failed c.from_residual-in_err-circuit.result c.in_err-circuit.field-0.0 c.from_residual-in_err-circuit.ensures in
    ends_as (unfailed c.in_ok-text.ensures.counted) as_is as_was as_was (handed_on is c.in_err-circuit.ensures.ends)

pub returns-clause-lowered : goal.returns-clause-lowered
returns-clause-lowered g c =
    let narrow = narrow_in c.in_ok-fit.fit in
    record {
      text = c.in_ok-text.ensures.bytes;
      stands = rw (sym c.as_slice.ensures.value) c.in_ok-model.ensures.stands;
      fit = rw (sym c.as_slice-2.ensures.value) (rw (sym c.model-2.ensures) c.in_ok-fit.ensures.fit);
      gives = record {
        narrow = narrow;
        fits = fits_known (g.A.Source.to_come c.args.first.now) c.as_slice-2.result.now narrow (rw c.as_slice-2.ensures.value c.in_ok-text.ensures.bytes) c.in_ok-fit.ensures.fitted;
        accepted = subst (λ (m : List Item). lowering_refusal m ≡ None) c.narrow_in.ensures c.in_ok-circuit.ensures.accepted;
        lowers = subst (λ (m : List Item). Lowers m c.in_ok-circuit.circuit) c.narrow_in.ensures c.in_ok-circuit.ensures.lowers;
      };
      narrow = refl;
    }
