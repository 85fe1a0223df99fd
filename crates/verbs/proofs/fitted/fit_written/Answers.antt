use Rattle.std.proofs.Common.{inr}
use Rattle.verbs.proofs.FittedLemmas.{not_fit_written}
use Rattle.verbs.proofs.fitted.fit_written.Goals as goal

pub returns-in-Ok-clause-fitted : goal.returns-in-Ok-clause-fitted
returns-in-Ok-clause-fitted c =
    let wide = c.in_ok-wide.wide in
    let narrow = c.in-Ok.narrow in
    let written = c.in_ok-wide.ensures.written in
    let fit = c.in-Ok.ensures.fits in
    record {
      lines = c.args.model.now;
      stands = c.requires.stands;
      fits = inr (record { wide = wide; written = written; fit = fit; forms = c.in-Ok.ensures.forms });
      rise_alike = λ b. (
        λ h.
            let list = (c.bad_properties_rise_alike-2.ensures.down c.args.model.now written.places written.wide b written.written h).0 in
            (c.bad_properties_rise_alike.ensures.down wide narrow fit.layout b fit.fits (c.bad_properties_rise_alike.ensures.down written.wide wide written.cells.layout b written.cells.fits list).0).0,
        λ h.
            let list = (c.bad_properties_rise_alike.ensures.up written.wide wide written.cells.layout b written.cells.fits (c.bad_properties_rise_alike.ensures.up wide narrow fit.layout b fit.fits h).0).0 in
            (c.bad_properties_rise_alike-2.ensures.up c.args.model.now written.places written.wide b written.written list).0,
      );
    }

pub returns-in-Err-clause-refused : goal.returns-in-Err-clause-refused
returns-in-Err-clause-refused c =
    rw c.refusal_of_written.ensures (not_fit_written c.args.text.now c.args.model.now c.in_ok-wide.wide c.in-Err.fault c.requires.not_profile c.requires.stands c.in_ok-wide.ensures.written c.in-Err.ensures.refused)
