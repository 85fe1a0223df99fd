use Rattle.std.proofs.Common.{◌≡◌, ◌≤◌, take, length}
use Rattle.aigertext.specs.Reading.{fields_behind, numbers_in}
use Rattle.aigertext.proofs.HeaderSmallLemmas.{ahead}
use Rattle.aigertext.proofs.reading.header.numbers_in.Given as goal

abbrev pub invariant-loop-field : goal.invariant-loop-field
invariant-loop-field l = record {
  so_far : ahead (take l.count l.numbers) (numbers_in (fields_behind l.rest)) ≡ numbers_in (fields_behind l.fn.rest);
  few : l.count ≤ 9;
  long : length l.numbers ≡ 9;
}

abbrev pub decreases-loop-field : goal.decreases-loop-field
decreases-loop-field l = length (fields_behind l.rest)
