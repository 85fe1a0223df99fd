use Rattle.cells.proofs.BitLemmas.{few_bits}
use Rattle.cells.proofs.maker.bits.array_width.Goals as goal

pub overflow_shl-result : goal.overflow_shl-result
overflow_shl-result c = few_bits c.args.bits c.args.element c.requires.least c.requires.most
