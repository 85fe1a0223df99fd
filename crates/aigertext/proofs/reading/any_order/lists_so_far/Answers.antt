use Rattle.std.proofs.Common.{refl, arith}
use Rattle.aigertext.proofs.AnyOrderLemmas.{stand_first}
use Rattle.aigertext.proofs.reading.any_order.lists_so_far.Goals as goal

pub returns-clause-stand : goal.returns-clause-stand
returns-clause-stand c =
    let header = c.in-Ok-Ascii-default-default in
    (stand_first header.counts c.args.before.now header.lines.now c.read_lists.new.lists c.push_own.new.lists header.ensures.small (rw header.field-0-0-0-is at header.ensures.fits) (rw header.field-0-0-0-is at header.ensures.gives) c.in-Ok-empty.field-0.now (omega (arith, c.in-Ok-empty.len_below)) c.in-Ok-empty.ensures
    _ (c.in_ok-push_own.ensures refl)).0

pub returns-clause-own : goal.returns-clause-own
returns-clause-own c =
    let header = c.in-Ok-Ascii-default-default in
    (stand_first header.counts c.args.before.now header.lines.now c.read_lists.new.lists c.push_own.new.lists header.ensures.small (rw header.field-0-0-0-is at header.ensures.fits) (rw header.field-0-0-0-is at header.ensures.gives) c.in-Ok-empty.field-0.now (omega (arith, c.in-Ok-empty.len_below)) c.in-Ok-empty.ensures
    _ (c.in_ok-push_own.ensures refl)).1
