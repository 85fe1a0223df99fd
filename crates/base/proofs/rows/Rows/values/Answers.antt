use Rattle.std.proofs.Common.{sym, ◌∙◌}
use Rattle.base.proofs.RowLemmas.{all_values}
use Rattle.base.proofs.rows.Rows.values.Goals as goal

pub returns : goal.returns
returns g c = rw (← c.self.view_is) (c.deref.ensures.value ∙ sym (all_values c.self.inside.ends.items c.self.inside.values.items c.self.invariant))
