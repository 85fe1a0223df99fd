use Rattle.std.proofs.Common.{sym, ap, ◌∙◌}
use Rattle.aigerlists.specs.Loose.{Loose, is_defined}
use Rattle.aigerlists.proofs.loose.Loose.define_in_turn.Goals as goal

pub returns : goal.returns
returns c turn = (
  c.self.inside.defined.in_turn,
  λ v. sym (c.self.invariant.1 v ∙ ap (λ (l : Loose). is_defined l v) c.self.view_is) ∙ c.are_in_turn.ensures turn v,
)
