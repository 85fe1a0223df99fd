use Rattle.std.proofs.Common.{ℕ, Vec, Global, rules}
use Rattle.vcd.proofs.NameLemmas.{there_before, names_after}
use Rattle.vcd.proofs.apart.Seen.add.Goals as goal

pub returns-clause-there : goal.returns-clause-there
returns-clause-there c = there_before (λ (v : Vec ℕ Global). v.items) c.self.inside.stems.keys c.args.stem _ _ c.in_ok-added.ensures.added (search rules)

pub returns-clause-names : goal.returns-clause-names
returns-clause-names c = names_after (λ (v : Vec ℕ Global). v.items) c.self.inside.stems.keys _ c.args.stem _ c.in_ok-added.ensures.keys (search rules)
