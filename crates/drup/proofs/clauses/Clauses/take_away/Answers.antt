use Rattle.std.proofs.Common.{ℕ, List, [], set, ap, ◌∙◌}
use Rattle.drup.proofs.FlatLemmas.{stretched-delete}
use Rattle.drup.proofs.clauses.Clauses.take_away.Goals as goal

pub returns : goal.returns
returns c = stretched-delete c.self.inside.literals.items c.self.inside.stretches.items c.args.k c.index.result.now.start ∙ ap (λ (cs : List (List ℕ)). set cs c.args.k []) c.self.view_is
