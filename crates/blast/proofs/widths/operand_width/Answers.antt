use Rattle.std.proofs.Common.{◌∙◌, arith}
use Rattle.blast.proofs.WidthLemmas.{bits_of-least}
use Rattle.blast.proofs.widths.operand_width.Goals as goal

pub returns-else-changed-clause-value : goal.returns-else-changed-clause-value
returns-else-changed-clause-value c = c.bit_count.ensures.value ∙ c.requires.kept c.if-changed.false

pub returns-else-changed-clause-some : goal.returns-else-changed-clause-some
returns-else-changed-clause-some c = omega (arith, c.bit_count.ensures.value ∙ c.requires.kept c.if-changed.false, bits_of-least c.args.model.now c.args.operand c.requires.well_formed c.requires.there)
