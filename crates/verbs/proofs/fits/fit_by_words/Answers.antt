use Rattle.std.proofs.Common.{inl, refl}
use Rattle.verbs.proofs.fits.fit_by_words.Goals as goal

pub returns-in-Ok-clause-fitted : goal.returns-in-Ok-clause-fitted
returns-in-Ok-clause-fitted c =
    let h = c.in-Ok.ensures.ready in
    let wide = h.wide in
    let narrow = c.in-Ok.ready.narrow in
    let fit = h.ready.fit in
    let model = h.ready.stands.well_formed in
    let ready = h.ready.each_has_next_or_is_free in
    record {
      lines = _;
      stands = c.wide_texts_are_read.ensures c.args.text.now wide h.ready.stands;
      fits = inl (record { wide = wide; stands = h.ready.stands; same = refl; each_has_next_or_is_free = ready; fit = fit; forms = h.forms });
      rise_alike = λ b. (
        λ g. (c.bad_properties_rise_alike.ensures.down wide narrow fit.layout b fit.fits (c.items_as_lines.ensures.down wide b model ready g).0).0,
        λ g. (c.items_as_lines.ensures.up wide b model ready (c.bad_properties_rise_alike.ensures.up wide narrow fit.layout b fit.fits g).0).0,
      );
    }
