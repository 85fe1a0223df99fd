use Rattle.std.proofs.Common.{refl}
use Rattle.rises.proofs.NoteLemmas.{words_part}
use Rattle.rises.proofs.word_noter.WordNoter.take_bytes.Goals as goal

pub returns : goal.returns
returns c items text line h =
    words_part items text c.args.bytes.now c.args.self.now (record { judge = c.feed.new.self; firsts = c.args.self.now.firsts }) line h (c.feed.ensures items text h.judge) refl
