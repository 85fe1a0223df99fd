use Rattle.std.proofs.Common.{◌≡◌, ◌++◌, length, map}
use Rattle.wordings.specs.Parts.{a_file}
use Rattle.wordings.specs.Values.{said}
use Rattle.wordings.proofs.parts.put_files.Given as goal

abbrev pub invariant-loop-word : goal.invariant-loop-word
invariant-loop-word g l = record {
  parts : map said l.parts.items ++ map a_file (map g.S.AsStr.text l.rest) ≡ map said l.fn.parts.items ++ map a_file (map g.S.AsStr.text l.words);
}

abbrev pub decreases-loop-word : goal.decreases-loop-word
decreases-loop-word g l = length l.rest
