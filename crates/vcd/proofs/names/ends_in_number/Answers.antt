use Rattle.std.proofs.Common.{Bool, nat_eq, ◌&&◌, ◌||◌, get_or, ap, ◌∙◌}
use Rattle.vcd.proofs.NameLemmas.{ends_more}
use Rattle.vcd.proofs.names.ends_in_number.Goals as goal

pub loop-byte-preserved : goal.loop-byte-preserved
loop-byte-preserved c =
    ap (λ (d : Bool). nat_eq (get_or c.args.name.now c.loop-byte.byte-index 0) 35 || (c.loop-byte.ends && d)) c.is_ascii_digit.ensures.value
    ∙ ends_more c.args.name.now c.loop-byte.byte-index c.loop-byte.ends c.loop-byte-test.true c.loop-byte.invariant
