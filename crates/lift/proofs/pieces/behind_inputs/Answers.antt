use Rattle.std.proofs.Common.{rules}
use Rattle.lift.proofs.PutLemmas.{bits_behind}
use Rattle.lift.proofs.pieces.behind_inputs.Goals as goal

pub returns : goal.returns
returns c = bits_behind c.cut.result.1.now c.args.bits.now _ _ c.cut.ensures.behind (search rules)
