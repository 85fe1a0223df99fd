use Rattle.std.proofs.Common.{◌≡◌, ◌*◌, ◌≤◌, ◌^◌, map, take}
use Rattle.fullmodel.specs.Lines.{line_of}
use Rattle.fulljudge.specs.Kept.{words_in, kind_of, sorts_among}
use Rattle.fulljudge.proofs.values.Values.of_kind.Given as goal

-- the sorts among the lines so far are there, and each line gives a value of at most 2 ^ 20 words
abbrev pub invariant-loop-line : goal.invariant-loop-line
invariant-loop-line l =
    record {
      sorts : l.values ≡ sorts_among l.model (kind_of l.kind) (map line_of (take l.line-index l.line-items));
      few : words_in l.values ≤ l.line-index * 2 ^ 20;
    }
