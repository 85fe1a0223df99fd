use Rattle.std.proofs.Common.{◌≡◌, sym, subst}
use Rattle.btor2.specs.Check.{IsWellFormed}
use Rattle.fitting.specs.Models.{IsFit}
use Rattle.fitting.specs.Tables.{table_of, layout_of}
use Rattle.fitting.proofs.LeafLemmas.{is_fit}
use Rattle.fitting.proofs.fitter.Fitter.finish.Goals as goal

pub returns-clause-fit : goal.returns-clause-fit
returns-clause-fit g c =
    subst (λ result. (fit : IsFit g.wide result) × (fit.layout ≡ layout_of c.args.self)) (sym c.finish.ensures)
    (is_fit g.wide (table_of c.args.self) c.args.self.maker c.requires (subst IsWellFormed c.model.ensures c.items-items.ensures.well_formed))
