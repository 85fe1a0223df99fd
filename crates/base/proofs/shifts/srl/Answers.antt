use Rattle.std.proofs.Common.{sym, arith}
use Rattle.base.proofs.ShiftLemmas.{shifted_out_right}
use Rattle.base.proofs.shifts.srl.Goals as goal

pub returns-else-b-lt-MAX : goal.returns-else-b-lt-MAX
returns-else-b-lt-MAX c = sym (shifted_out_right c.args.w c.args.a c.args.b (omega arith) c.requires)
