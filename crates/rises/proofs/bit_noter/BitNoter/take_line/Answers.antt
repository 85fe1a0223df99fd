use Rattle.std.proofs.Common.{refl}
use Rattle.rises.specs.declared.bit_noter.BitNoter.{BitNoter}
use Rattle.rises.proofs.NoteLemmas.{bits_same, bits_more}
use Rattle.rises.proofs.bit_noter.BitNoter.take_line.Goals as goal

pub returns-then-closed_frames-closed : goal.returns-then-closed_frames-closed
returns-then-closed_frames-closed c noted circuit text is h =
    let after : BitNoter = record { judge = c.take_line.new.self; firsts = c.args.self.now.firsts } in
    let stands = c.take_line.ensures circuit text is h.judge in
    bits_same noted circuit text c.args.line.now c.args.self.now after is h stands c.closed_frames-closed.result c.closed_frames.result (c.closed_frames-closed.ensures circuit text h.judge) (c.closed_frames.ensures circuit _ stands) c.if-closed_frames-closed.true refl

pub returns : goal.returns
returns c noted circuit text is h =
    let after : BitNoter = record { judge = c.take_line.new.self; firsts = c.note.new.firsts } in
    let stands = c.take_line.ensures circuit text is h.judge in
    bits_more noted circuit text c.args.line.now c.args.self.now after is h stands c.closed_frames-closed.result c.closed_frames.result (c.closed_frames-closed.ensures circuit text h.judge) (c.closed_frames.ensures circuit _ stands) c.if-closed_frames-closed.false
    (λ vs trace. c.note.ensures circuit _ vs stands trace)
