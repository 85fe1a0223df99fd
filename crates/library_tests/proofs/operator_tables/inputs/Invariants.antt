use Rattle.std.proofs.Common.{◌≡◌, ◌+◌, ◌*◌, ◌<◌, length, All}
use Rattle.library_tests.proofs.operator_tables.inputs.Given as goal

abbrev pub invariant-loop-i : goal.invariant-loop-i
invariant-loop-i l = record {
  wide : length l.bits.items ≡ l.i;
  defined : All (λ x. x < 2 * (l.before + l.width + 1)) l.bits.items;
}
