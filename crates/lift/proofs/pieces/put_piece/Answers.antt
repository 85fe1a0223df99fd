use Rattle.std.proofs.Common.{◌-◌, arith}
use Rattle.lift.proofs.PutLemmas.{piece_of_header, piece_of_claim, piece_of_initial, piece_of_frame}
use Rattle.lift.proofs.pieces.put_piece.Goals as goal

pub returns-then-number-eq0 : goal.returns-then-number-eq0
returns-then-number-eq0 g c = rw (piece_of_header c.args.named c.args.model.now c.args.number c.args.line.now (omega (arith, c.if-number-eq0.true))) c.put_line.ensures

pub returns-then-number-eq1 : goal.returns-then-number-eq1
returns-then-number-eq1 g c = rw (piece_of_claim c.args.named c.args.model.now c.args.number c.args.line.now (omega (arith, c.if-number-eq1.true))) c.put_line-then-number-eq1.ensures

pub returns-then-number-eq2 : goal.returns-then-number-eq2
returns-then-number-eq2 g c = rw (piece_of_initial c.args.named c.args.model.now c.args.number c.args.line.now (omega (arith, c.if-number-eq2.true))) c.put_initial.ensures

pub returns : goal.returns
returns g c =
    rw (piece_of_frame c.args.named c.args.model.now c.args.number (c.args.number - 3) c.args.line.now (omega (arith, c.if-number-eq0.false, c.if-number-eq1.false, c.if-number-eq2.false))) c.put_frame_or_end.ensures
