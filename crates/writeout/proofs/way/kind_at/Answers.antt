use Rattle.std.proofs.Common.{ℕ, ◌≤◌, sym, subst}
use Rattle.fullmodel.specs.Lines.{line_of}
use Rattle.writeout.specs.Ways.{NumberFits}
use Rattle.writeout.proofs.DigitLemmas.{found_fits}
use Rattle.writeout.proofs.way.kind_at.Goals as goal

pub says_kind-requires-clause-fits : goal.says_kind-requires-clause-fits
says_kind-requires-clause-fits c =
    subst (λ (n : ℕ). NumberFits n (line_of c.line_at.result.now).says) (sym c.width.ensures.width)
    (found_fits c.args.full.now c.args.id c.in-Some.place (line_of c.line_at.result.now) c.know.ensures.model c.in-Some.ensures.found c.line_at.ensures.at
    (λ there. subst (λ (n : ℕ). 1 ≤ n) c.width.ensures.width (c.width.ensures.least there)))
