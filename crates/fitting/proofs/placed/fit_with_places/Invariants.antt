use Rattle.wide.specs.Lines.{items_of}
use Rattle.fitting.proofs.placed.fit_with_places.Given as goal

abbrev pub ghost-fit_placed : goal.ghost-fit_placed
ghost-fit_placed a = items_of a.lines.items
