use Rattle.std.proofs.Common.{inl, refl}
use Rattle.verbs.proofs.fitted.fit_words.Goals as goal

pub returns-clause-fitted : goal.returns-clause-fitted
returns-clause-fitted c =
    let wide = c.args.wide in
    let narrow = c.in_ok-narrow.narrow in
    let fit = c.in_ok-narrow.ensures.fits in
    let model = c.requires.stands.well_formed in
    let ready = c.requires.ready in
    record {
      lines = _;
      stands = c.wide_texts_are_read.ensures c.args.text.now wide c.requires.stands;
      fits = inl (record { wide = wide; stands = c.requires.stands; same = refl; each_has_next_or_is_free = ready; fit = fit; forms = inl c.in_ok-narrow.ensures.forms });
      rise_alike = λ b. (
        λ h. (c.bad_properties_rise_alike.ensures.down wide narrow fit.layout b fit.fits (c.items_as_lines.ensures.down wide b model ready h).0).0,
        λ h. (c.items_as_lines.ensures.up wide b model ready (c.bad_properties_rise_alike.ensures.up wide narrow fit.layout b fit.fits h).0).0,
      );
    }
