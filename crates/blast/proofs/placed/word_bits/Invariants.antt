use Rattle.std.proofs.Common.{◌≡◌, map}
use Rattle.base.specs.Word.{bits}
use Rattle.blast.specs.Rows.{bit_literal}
use Rattle.blast.proofs.placed.word_bits.Given as goal

abbrev pub invariant-loop-i : goal.invariant-loop-i
invariant-loop-i l = l.row.items ≡ map bit_literal (bits l.i l.word)
