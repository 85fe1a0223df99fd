use Rattle.std.proofs.Common.{arith}
use Rattle.std.proofs.lemmas.Nat.{pow-add, pow_pos}
use Rattle.pieces.proofs.MoveLemmas.{power_bound}
use Rattle.pieces.proofs.shifts.stages.Goals as goal

pub counting-init : goal.counting-init
counting-init c = record { power = omega arith; least = omega (arith, c.requires.some) }

pub overflow_add-count : goal.overflow_add-count
overflow_add-count c = let bound = power_bound c.counting.count c.counting.power c.counting.invariant.power (omega (arith, c.counting-test.true, c.requires.few)) in omega (arith, bound)

pub counting-preserved : goal.counting-preserved
counting-preserved c = record { power = omega (arith, c.counting.invariant.power, pow-add 2 c.counting.count 1); least = omega (arith, c.counting-test.true) }

pub counting-smaller : goal.counting-smaller
counting-smaller c = omega (arith, c.counting-test.true, c.counting.invariant.power, pow_pos c.counting.count)
