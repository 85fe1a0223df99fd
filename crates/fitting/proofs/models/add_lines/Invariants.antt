use Rattle.wide.specs.Lines.{item_of, items_of}
use Rattle.fitting.specs.Fitted.{IsFitted}
use Rattle.fitting.specs.Models.{HaveForms}
use Rattle.fitting.specs.Tables.{table_of}
use Rattle.fitting.proofs.ModelLemmas.{front_of}
use Rattle.fitting.proofs.models.add_lines.Given as goal

abbrev pub invariant-loop-line : goal.invariant-loop-line
invariant-loop-line g l = record {
  fitted : IsFitted (items_of l.yielded) (table_of l.fitter) l.fitter.maker;
  forms : HaveForms (items_of l.yielded);
}

abbrev pub ghost-add_line : goal.ghost-add_line
ghost-add_line g a = front_of (item_of a.line).id g.items
