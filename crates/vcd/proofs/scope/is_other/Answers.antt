use Rattle.std.proofs.Common.{◌≡◌, is_some, ap, sym, ◌∙◌}
use Rattle.runs.specs.Frames.{has_value}
use Rattle.runs.proofs.PlaceLemmas.{width_there}
use Rattle.vcd.proofs.SignalLemmas.{no_value, a_leaf}
use Rattle.vcd.proofs.scope.is_other.Goals as goal
use Rattle.vcd.proofs.scope.is_other.Goals.{then-not-is_some-via-then-not-is_some, then-not-is_some-via-else-not-is_some+then-is_leaf}

pub returns-then-not-is_some : goal.returns-then-not-is_some
returns-then-not-is_some c =
    let told : c.is_some.result ≡ has_value c.args.item.now.body = c.is_some.ensures ∙ (ap is_some c.width_of.ensures ∙ width_there c.args.model.now c.args.place c.args.item.now c.requires.well_formed c.requires.at) in
    elim c.then-not-is_some.branch [
      | then-not-is_some-via-then-not-is_some w ↦ no_value (has_value c.args.item.now.body) _ (sym told ∙ w.if-not-is_some.true)
      | then-not-is_some-via-else-not-is_some+then-is_leaf w ↦ a_leaf (has_value c.args.item.now.body) _ _ (sym w.is_leaf.ensures ∙ w.if-is_leaf.true)
    ]
