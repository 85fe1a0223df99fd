use Rattle.std.proofs.Common.{refl}
use Rattle.verbs.proofs.given.give_lowered.Goals as goal

pub returns-clause-given : goal.returns-clause-given
returns-clause-given g c =
    let is = c.in_ok-model.ensures.lowered in
    record { gives = record { items = c.in_ok-model.field-0.model; text = is.text; accepted = is.accepted; lowers = is.lowers }; is_numbering = c.own.ensures; model = refl }
