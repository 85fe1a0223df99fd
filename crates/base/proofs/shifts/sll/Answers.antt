use Rattle.std.proofs.Common.{◌*◌, ◌^◌, sym, ◌∙◌, arith}
use Rattle.base.proofs.ShiftLemmas.{shifted_out_left}
use Rattle.base.proofs.WrapLemmas.{cut_twice}
use Rattle.base.proofs.shifts.sll.Goals as goal

pub returns-then-b-bits : goal.returns-then-b-bits
returns-then-b-bits c = c.wrap.ensures ∙ cut_twice c.args.w (c.args.a * 2 ^ c.args.b) (omega arith)

pub returns-else-b-bits : goal.returns-else-b-bits
returns-else-b-bits c = sym (shifted_out_left c.args.w c.args.a c.args.b (omega arith))
