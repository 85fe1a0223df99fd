use Rattle.std.proofs.Common.{List, IfOk, subst}
use Rattle.std.specs.List.{AllZip}
use Rattle.btor2.specs.declared.item.Item.{Item}
use Rattle.fitting.specs.Laid.{IsLaid}
use Rattle.fitting.specs.Models.{IsFit}
use Rattle.fitting.proofs.placed.fit_with_places.Goals as goal

pub returns-clause-fits : goal.returns-clause-fits
returns-clause-fits c =
    subst (λ (items : List Item). IfOk c.fit_placed.result (λ f. (fit : IsFit items f.model) × AllZip (IsLaid items f.model fit.layout) c.args.nodes.now f.places)) c.into_lines.ensures.items c.fit_placed.ensures.fits
