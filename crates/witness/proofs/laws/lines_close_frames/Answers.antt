use Rattle.witness.proofs.ClosedLemmas.{line_closes_one, part_closes_none, front_closes}
use Rattle.witness.proofs.laws.lines_close_frames.Goals as goal

pub returns : goal.returns
returns c = record { line = line_closes_one; part = part_closes_none; front = front_closes }
