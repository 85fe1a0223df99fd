use Rattle.std.proofs.Common.{Some, ap, sym}
use Rattle.verbs.specs.declared.given.GivenModel.TheVariants as given_model
use Rattle.verbs.proofs.GivenLemmas.{not_lowered_fitted}
use Rattle.verbs.proofs.CountLemmas.{as_is, as_was, ends_as, failed, handed_on, unfailed}
use Rattle.verbs.proofs.given.give_fitted.Goals as goal

pub returns-clause-given : goal.returns-clause-given
returns-clause-given g c =
    let is = c.in_ok-narrow.ensures.fits in
    record {
      gives = record { narrow = c.in_ok-narrow.narrow; fits = is.fits; accepted = c.in_ok-circuit.ensures.accepted; lowers = c.in_ok-circuit.ensures.lowers };
      is_numbering = c.own.ensures;
      model = ap (λ full. Some (given_model.Whole full)) (sym is.lines);
    }

pub returns-in_err-circuit-clause-refused : goal.returns-in_err-circuit-clause-refused
returns-in_err-circuit-clause-refused g c =
    let is = failed c.from_residual-in_err-circuit.result c.in_err-circuit.field-0.0 c.from_residual-in_err-circuit.ensures in
    rw is (not_lowered_fitted (g.A.Source.to_come c.args.first.now) c.in_ok-narrow.narrow c.in_err-circuit.field-0.0 c.in_ok-narrow.ensures.fits.fits c.in_err-circuit.ensures.refused)

pub returns-in_err-circuit-clause-ends : goal.returns-in_err-circuit-clause-ends
returns-in_err-circuit-clause-ends g c =
    let is = failed c.from_residual-in_err-circuit.result c.in_err-circuit.field-0.0 c.from_residual-in_err-circuit.ensures in
    ends_as (unfailed (c.in_ok-narrow.ensures.ends.counted 0 0 0).0) as_is as_was as_was (handed_on is c.in_err-circuit.ensures.ends)
