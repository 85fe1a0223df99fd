-- The table of a fitter, and the layout that it is.
use Rattle.std.specs.Prelude.{nat_eq}
use Rattle.std.specs.HashMap.{get}
use Rattle.fit.specs.Fitting.{Layout}
use Rattle.fitting.specs.declared.fitter.Fitter.{Fitter}
use Rattle.fitting.specs.Fitted.{Table, layout_by}
use Rattle.fitting.specs.Fitters.{word_at}

abbrev pub table_of : Fitter → Table
table_of f = record { sorts = λ id. get nat_eq f.sorts id; words = λ id. word_at f.words id }

abbrev pub layout_of : Fitter → Layout
layout_of f = layout_by (word_at f.words)
