use Rattle.wide.specs.Lines.{items_of}
use Rattle.fitting.proofs.models.fit.Given as goal

abbrev pub ghost-fit_lines : goal.ghost-fit_lines
ghost-fit_lines a = items_of a.lines.items
