use Rattle.std.proofs.Common.{arith}
use Rattle.std.proofs.lemmas.List.{drop_all}
use Rattle.base.proofs.line.Line.clear.Goals as goal

pub returns : goal.returns
returns c = drop_all 512 c.self.inside.bytes (omega arith)
