use Rattle.std.proofs.Common.{◌≡◌}
use Rattle.std.specs.Io.KnownBytes.{prepend_known}
use Rattle.base.specs.Held.{lines_left}
use Rattle.restore.proofs.FormClaimLemmas.{HeadGiven}
use Rattle.restore.proofs.form_claim.read_claim.Given as goal

abbrev pub invariant-loop-judge : goal.invariant-loop-judge
invariant-loop-judge g l = record {
  given : HeadGiven (g.S.Source.to_come l.initial.source) (prepend_known l.lines.rest (g.S.Source.to_come l.source)) l.initial.judge l.judge;
  read : g.S.Source.failures l.source ≡ g.S.Source.failures l.initial.source;
}

abbrev pub decreases-loop-judge : goal.decreases-loop-judge
decreases-loop-judge g l = lines_left l.lines.rest (g.S.Source.calls_left l.source)
