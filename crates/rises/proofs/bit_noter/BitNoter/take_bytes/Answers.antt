use Rattle.std.proofs.Common.{refl}
use Rattle.rises.proofs.NoteLemmas.{bits_of_part}
use Rattle.rises.proofs.bit_noter.BitNoter.take_bytes.Goals as goal

pub returns : goal.returns
returns c noted circuit text line h =
    bits_of_part noted circuit text c.args.bytes.now c.args.self.now (record { judge = c.feed.new.self; firsts = c.args.self.now.firsts }) line h (c.feed.ensures circuit text h.judge) refl
