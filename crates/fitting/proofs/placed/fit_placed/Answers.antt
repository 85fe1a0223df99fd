use Rattle.std.proofs.Common.{List, sym, subst₂}
use Rattle.std.specs.List.{AllZip}
use Rattle.btor2.specs.declared.item.Item.{Item}
use Rattle.fit.specs.Fitting.{Layout}
use Rattle.fitting.specs.Laid.{IsLaid}
use Rattle.fitting.proofs.placed.fit_placed.Goals as goal

pub returns-clause-fits : goal.returns-clause-fits
returns-clause-fits g c =
    (c.finish.ensures.fit.0, subst₂ (λ (narrow : List Item) (layout : Layout). AllZip (IsLaid g.items narrow layout) c.args.nodes.now c.in_ok-places.places) (sym c.finish.ensures.model) (sym c.finish.ensures.fit.1) c.in_ok-places.ensures.laid)
