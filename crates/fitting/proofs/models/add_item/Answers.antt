use Rattle.std.proofs.Common.{sym, subst}
use Rattle.fitting.specs.Models.{IsUnfitLine}
use Rattle.fitting.specs.Tables.{table_of}
use Rattle.fitting.proofs.ModelLemmas.{unfit_by}
use Rattle.fitting.proofs.models.add_item.Goals as goal

pub returns-in-Err-clause-refused : goal.returns-in-Err-clause-refused
returns-in-Err-clause-refused g c =
    let x = c.args.item in
    subst (λ e. IsUnfitLine e g.wide x) (sym c.refused.ensures.told)
    (unfit_by g.wide x (table_of c.args.fitter.now) c.args.fitter.now.maker c.add.new.self.maker c.in-Err.unfitted c.requires.0 c.in-Err.ensures.grows c.refused.ensures.well_formed c.in-Err.ensures.refused)
