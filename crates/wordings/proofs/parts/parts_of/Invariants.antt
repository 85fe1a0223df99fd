use Rattle.std.proofs.Common.{◌≡◌, ◌++◌, None, length, map, option_map}
use Rattle.wordings.specs.Parts.{parts_behind}
use Rattle.wordings.specs.Values.{said}
use Rattle.wordings.proofs.parts.parts_of.Given as goal

abbrev pub invariant-loop-word : goal.invariant-loop-word
invariant-loop-word g l = record {
  found : map said l.found.items ++ parts_behind l.verb (option_map said l.option) (map g.S.AsStr.text l.rest) ≡ parts_behind l.verb None (map g.S.AsStr.text l.words);
}

abbrev pub decreases-loop-word : goal.decreases-loop-word
decreases-loop-word g l = length l.rest
