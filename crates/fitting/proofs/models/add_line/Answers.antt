use Rattle.std.proofs.Common.{sym, ap, subst₂}
use Rattle.wide.specs.Lines.{item_of, constant_item, number_of_digits}
use Rattle.fitting.specs.declared.unfitted.Unfitted.TheVariants as unfitted
use Rattle.fitting.specs.Models.{IsUnfitLine}
use Rattle.fitting.specs.Tables.{table_of}
use Rattle.fitting.proofs.ModelLemmas.{unfit_by, constant_form}
use Rattle.fitting.proofs.models.add_line.Goals as goal

pub returns-clause-refused : goal.returns-clause-refused
returns-clause-refused g c =
    let k = c.in-Constant.constant in
    subst₂ (λ e x. IsUnfitLine e g.wide x) (sym c.refused.ensures.told) (ap item_of (sym c.in-Constant.is))
    (unfit_by g.wide (constant_item k) (table_of c.args.fitter.now) c.args.fitter.now.maker c.add_constant.new.fitter.maker (unfitted.Short c.in-Err.shortage) c.requires.0 c.in-Err.ensures.grows c.refused.ensures.well_formed
    (constant_form k.spelling k.sort k.count (number_of_digits k.number.items), c.in-Err.ensures.short))
