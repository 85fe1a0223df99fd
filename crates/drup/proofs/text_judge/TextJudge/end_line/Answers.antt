use Rattle.std.proofs.Common.{◌+◌, ◌-◌, ◌^◌, min, ap}
use Rattle.drup.specs.declared.lines.Place.TheVariants as place
use Rattle.drup.specs.TextJudges.{TextJudge}
use Rattle.drup.proofs.text_judge.TextJudge.end_line.Goals as goal

pub returns : goal.returns
returns c = rw c.saturating_add-self-inside.ensures (ap (λ (x : TextJudge). record x { line = min (x.line + 1) (2 ^ 64 - 1); place = place.Begins }) c.self.view_is)
