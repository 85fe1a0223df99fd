use Rattle.std.proofs.Common.{◌≤◌, List, subst}
use Rattle.btor2.specs.declared.item.Item.{Item}
use Rattle.btor2.specs.Trace.{bits_of}
use Rattle.wide.specs.WideModels.{greatest_width}
use Rattle.cells.proofs.KeptLemmas.{bits_most}
use Rattle.cells.proofs.maker.ListMaker.know.Goals as goal

pub returns : goal.returns
returns c = subst (λ (l : List Item). bits_of l c.args.a ≤ greatest_width) c.self.view_is (bits_most c.self.inside.model c.args.a c.lines-lines.ensures.well_formed)
