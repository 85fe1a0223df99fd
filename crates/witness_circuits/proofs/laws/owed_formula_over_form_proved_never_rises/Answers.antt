use Rattle.std.proofs.Common.{None}
use Rattle.witness_circuits.proofs.laws.owed_formula_over_form_proved_never_rises.Goals as goal

pub returns : goal.returns
returns c circuit k witness f form text line a judged rise =
    c.owed_formula_proved_never_rises.ensures None a.form 0 witness f form text line a.tested judged ((c.bad_properties_rise_alike.ensures.one circuit a.form k a.is_form.is_form).0 rise)
