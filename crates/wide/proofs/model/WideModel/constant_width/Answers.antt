use Rattle.std.proofs.Common.{subst}
use Rattle.wide.specs.WideModels.{greatest_width, IsWideModel}
use Rattle.wide.proofs.GrowLemmas.{range_of}
use Rattle.wide.proofs.model.WideModel.constant_width.Goals as goal

pub returns-clause-range : goal.returns-clause-range
returns-clause-range c = range_of c.args.self.now c.args.sort c.named_sort.result (subst (IsWideModel greatest_width) c.self.view_is c.self.invariant.well_formed) c.named_sort.ensures
