use Rattle.std.proofs.Common.{sym, ◌∙◌}
use Rattle.lift.proofs.PutLemmas.{piece_of_end, piece_of_bits}
use Rattle.lift.proofs.pieces.put_frame_or_end.Goals as goal

pub returns-then-is_word : goal.returns-then-is_word
returns-then-is_word g c = rw (piece_of_end c.args.named c.args.model.now c.args.frame c.args.line.now (sym c.is_word.ensures ∙ c.if-is_word.true)) c.put_line.ensures

pub returns-else-is_word : goal.returns-else-is_word
returns-else-is_word g c = rw (piece_of_bits c.args.named c.args.model.now c.args.frame c.args.line.now (sym c.is_word.ensures ∙ c.if-is_word.false)) c.put_frame.ensures
