use Rattle.std.proofs.Common.{◌<◌}
use Rattle.full.specs.Lines.{FullLine}
use Rattle.fullmodel.specs.Lines.{line_of}
use Rattle.writeout.proofs.putting.know_id.Goals as goal
use Rattle.writeout.proofs.NeedLemmas.{all_get}

pub returns : goal.returns
returns c = all_get (λ (x : FullLine). x.id < 4294967296) c.args.full.now c.args.place (line_of c.args.line.now) c.know.ensures.ids c.requires
