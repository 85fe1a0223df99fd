use Rattle.std.proofs.Common.{◌≡◌, ◌+◌, ◌++◌, length, map, reverse, take}
use Rattle.base.specs.Word.{bits}
use Rattle.witness.specs.Texts.{digit}
use Rattle.unfit.proofs.digits.add_digits.Given as goal

abbrev pub invariant-loop-place : goal.invariant-loop-place
invariant-loop-place l = record {
  digits : l.line ≡ map digit (reverse (take l.place (bits l.width l.word))) ++ l.fn.line;
  many : length l.line ≡ l.place + length l.fn.line;
}
