use Rattle.lrat.specs.HintedForms.{read_lrat}
use Rattle.lrat.proofs.laws.derived_is_unsatisfiable.Goals as goal

pub returns : goal.returns
returns c formula text line is = c.hinted_is_unsatisfiable.ensures formula (read_lrat formula.variables text) line is
