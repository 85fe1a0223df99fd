use Rattle.std.proofs.Common.{sym, subst, ◌∙◌}
use Rattle.lrat.specs.declared.scan.Spot.{Spot}
use Rattle.lrat.specs.Scans.{spot_of}
use Rattle.lrat.proofs.ByteLemmas.{IsCut, cut_within, cut_step}
use Rattle.lrat.proofs.scan.Scan.cut.Goals as goal

pub returns-in-Id : goal.returns-in-Id
returns-in-Id c bytes s unended = cut_within c.args.self.step c.args.self.spot bytes c.in-Id.is unended

pub returns-else-is_empty : goal.returns-else-is_empty
returns-else-is_empty c bytes s unended =
    subst (λ (p : Spot). IsCut c.args.self.step (spot_of p) bytes c.cut_letter.result) (sym c.in-Step.is)
    (cut_step c.args.self.step bytes c.cut_letter.result unended (sym (c.is_empty.ensures bytes s) ∙ c.if-is_empty.false) c.cut_letter.ensures)
