use Rattle.std.proofs.Common.{refl}
use Rattle.fitting.specs.Tables.{table_of}
use Rattle.fitting.proofs.FormLemmas.{sort_fitted}
use Rattle.fitting.proofs.fitter.Fitter.add_sort.Goals as goal

pub returns-in-Ok-clause-fitted : goal.returns-in-Ok-clause-fitted
returns-in-Ok-clause-fitted g c =
    sort_fitted g.at.wide (table_of c.args.self.now) _ c.args.self.now.maker c.args.id c.args.width g.at.symbol c.requires.0 c.requires.1 c.in-Ok.ensures.updates.0 (λ k. refl)
