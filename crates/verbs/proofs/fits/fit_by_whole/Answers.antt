use Rattle.std.proofs.Common.{inr}
use Rattle.verbs.proofs.WholeLemmas.{not_fit_whole}
use Rattle.verbs.proofs.fits.fit_by_whole.Goals as goal

pub returns-in-Ok-clause-fitted : goal.returns-in-Ok-clause-fitted
returns-in-Ok-clause-fitted c =
    let full = c.args.model.now in
    let h = c.in-Ok.ensures.whole in
    let wide = h.celled in
    let narrow = c.in-Ok.whole.narrow in
    let written = h.written in
    let fit = h.placed.fit in
    record {
      lines = full;
      stands = c.requires.stands;
      fits = inr (record { wide = wide; written = written; fit = fit; forms = h.forms });
      rise_alike = λ b. (
        λ g.
            let list = (c.bad_properties_rise_alike-2.ensures.down full written.places written.wide b written.written g).0 in
            (c.bad_properties_rise_alike.ensures.down wide narrow fit.layout b fit.fits (c.bad_properties_rise_alike.ensures.down written.wide wide written.cells.layout b written.cells.fits list).0).0,
        λ g.
            let list = (c.bad_properties_rise_alike.ensures.up written.wide wide written.cells.layout b written.cells.fits (c.bad_properties_rise_alike.ensures.up wide narrow fit.layout b fit.fits g).0).0 in
            (c.bad_properties_rise_alike-2.ensures.up full written.places written.wide b written.written list).0,
      );
    }

pub returns-in-Err-clause-refused : goal.returns-in-Err-clause-refused
returns-in-Err-clause-refused c = not_fit_whole c.args.text.now c.args.model.now c.in-Err.refusal c.requires.not_profile c.requires.stands c.in-Err.ensures.refused
