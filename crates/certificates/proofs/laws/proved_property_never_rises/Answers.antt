use Rattle.certificates.proofs.TraceLemmas.{cannot_rise, zero_resets}
use Rattle.certificates.proofs.laws.proved_property_never_rises.Goals as goal

pub returns : goal.returns
returns c circuit k d cubes form text line is_form over ask derived rise =
    cannot_rise d cubes is_form.circuit over ask (c.derived_is_unsatisfiable.ensures form _ text line derived) (zero_resets d.latches _ is_form.resets) ((c.bad_properties_rise_alike.ensures.one circuit d k is_form).0 rise)
