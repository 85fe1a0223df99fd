use Rattle.std.proofs.Common.{sym, ◌∙◌}
use Rattle.lrat.proofs.LratJudgeLemmas.{end_empty, end_lines, end_bytes}
use Rattle.lrat.proofs.lrat_judge.LratJudge.end.Goals as goal

pub returns-in-Empty : goal.returns-in-Empty
returns-in-Empty c f text b = end_empty f c.args.self.now text (sym c.form.ensures ∙ c.in-Empty.is) b

pub returns-in-Lines : goal.returns-in-Lines
returns-in-Lines c f text b = end_lines f c.args.self.now text (sym c.form.ensures ∙ c.in-Lines.is) b

pub returns-in-Bytes : goal.returns-in-Bytes
returns-in-Bytes c f text b = end_bytes f c.args.self.now c.end_bytes.new.self text (sym c.form.ensures ∙ c.in-Bytes.is) c.end_bytes.ensures.form (c.end_bytes.ensures.ends f) b
