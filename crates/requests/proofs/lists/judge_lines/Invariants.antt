use Rattle.std.proofs.Common.{◌≤◌, ◌+◌, ◌++◌, ℕ, List, length}
use Rattle.std.specs.Io.KnownBytes.{Appends}
use Rattle.requests.specs.declared.told_lines.Totals.{Totals}
use Rattle.requests.specs.Lists.{JudgesLines, lines}
use Rattle.requests.specs.Told.{no_totals}
use Rattle.requests.proofs.lists.judge_lines.Given as goal

abbrev pub invariant-loop-line : goal.invariant-loop-line
invariant-loop-line g l = record {
  said : (said : List ℕ) × (Appends (g.O.Sink.written l.initial.out) (g.O.Sink.written l.out) said × ((more : List ℕ) (behind : Totals) → JudgesLines (g.F.NamedFiles.text l.files) l.as_json l.number (lines l.rest) l.totals more behind → JudgesLines (g.F.NamedFiles.text l.files) l.as_json 1 (lines l.text) no_totals (said ++ more) behind));
  few : l.number + length l.rest ≤ length l.text + 1;
}

abbrev pub decreases-loop-line : goal.decreases-loop-line
decreases-loop-line g l = length l.rest
