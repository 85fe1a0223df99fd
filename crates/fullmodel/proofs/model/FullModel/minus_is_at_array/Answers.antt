use Rattle.std.proofs.Common.{◌≡◌, length, sym, ◌∙◌}
use Rattle.std.proofs.lemmas.Bool.{eqb-true}
use Rattle.fullmodel.proofs.AcceptedLemmas.{none_at_array}
use Rattle.fullmodel.proofs.model.FullModel.minus_is_at_array.Goals as goal

pub returns-then-is_empty : goal.returns-then-is_empty
returns-then-is_empty c = sym (none_at_array c.args.self.now c.args.body.now c.args.minuses.now (eqb-true (length c.args.minuses.now) 0 (sym c.is_empty.ensures ∙ c.if-is_empty.true)))
