use Rattle.std.proofs.Common.{◌≡◌, ◌<◌, ◌==◌, ℕ, length, get_or}
use Rattle.witness.specs.Texts.{digit}
use Rattle.lift.proofs.pieces.put_digits.Given as goal

-- the digits of the bits before are put
abbrev pub invariant-loop-k : goal.invariant-loop-k
invariant-loop-k l =
    record {
      digits : (j : ℕ) → j < l.k → get_or l.digits j 0 ≡ digit (get_or l.bits j 0 == 49);
      as_many : length l.digits ≡ length l.bits;
    }
