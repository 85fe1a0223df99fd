use Rattle.std.proofs.Common.{ℕ, List, [], ◌∷◌, ◌++◌, codes, refl, ap, ◌∙◌, arith}
use Rattle.std.specs.Fmt.{digits}
use Rattle.btor2text.specs.Digits.{last_digits}
use Rattle.fulltext.specs.Writing.{long_decimal}
use Rattle.fulltext.proofs.LongLemmas.{long_one, long_behind}
use Rattle.fulltext.proofs.laws.worked_writing.Goals as goal

pub returns-clause-array : goal.returns-clause-array
unfolding digits long_decimal
returns-clause-array c = refl

pub returns-clause-read : goal.returns-clause-read
unfolding digits long_decimal
returns-clause-read c = refl

pub returns-clause-write : goal.returns-clause-write
unfolding digits long_decimal
returns-clause-write c = refl

pub returns-clause-filled : goal.returns-clause-filled
unfolding digits long_decimal
returns-clause-filled c = refl

pub returns-clause-slice : goal.returns-clause-slice
unfolding digits long_decimal
returns-clause-slice c = refl

pub returns-clause-bad : goal.returns-clause-bad
unfolding digits long_decimal
returns-clause-bad c = refl

pub returns-clause-justice : goal.returns-clause-justice
unfolding digits long_decimal
returns-clause-justice c = refl

pub returns-clause-named : goal.returns-clause-named
unfolding digits long_decimal
returns-clause-named c = refl

pub returns-clause-wide : goal.returns-clause-wide
unfolding digits long_decimal
returns-clause-wide c = refl

pub returns-clause-decimal : goal.returns-clause-decimal
unfolding digits
returns-clause-decimal c =
    ap (λ (ds : List ℕ). codes "2 constd 1 " ++ ((ds ++ []) ++ 10 ∷ []) ++ []) (long_behind 79 12345678901234567890123456789012345678901234567890123456789012345678901234567890 (omega arith) ∙ ap (λ (ds : List ℕ). ds ++ last_digits 10 79 12345678901234567890123456789012345678901234567890123456789012345678901234567890) (long_one 1 (omega arith)))

pub returns-clause-negative : goal.returns-clause-negative
unfolding digits long_decimal
returns-clause-negative c = refl
