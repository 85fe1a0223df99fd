-- How the text of a proof with hints is judged over a formula: as its steps are, and its first fault.
use Rattle.std.specs.Prelude.{ℕ, List}
use Rattle.drup.specs.declared.judgement.Judgement.{Judgement}
use Rattle.drup.specs.Formula.{Formula}
use Rattle.drup.specs.Hints.{judge_hinted}
use Rattle.lrat.specs.HintedForms.{read_lrat}

-- what a text is judged as over a formula
abbrev pub judge_lrat : Formula → List ℕ → Judgement
judge_lrat f text = judge_hinted f (read_lrat f.variables text)
