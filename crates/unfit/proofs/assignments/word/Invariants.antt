use Rattle.std.proofs.Common.{◌≡◌, map, reverse, take}
use Rattle.base.specs.Word.{word}
use Rattle.witness.specs.Admits.{is_one_bit}
use Rattle.unfit.proofs.assignments.word.Given as goal

abbrev pub invariant-loop-digit : goal.invariant-loop-digit
invariant-loop-digit l = l.word ≡ word (reverse (map is_one_bit (take l.digit-index l.digits)))
