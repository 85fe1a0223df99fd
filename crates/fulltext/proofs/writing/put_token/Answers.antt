use Rattle.wide.specs.Lines.{number_of_digits}
use Rattle.base.proofs.PenLemmas.{writes_then}
use Rattle.fulltext.proofs.WritingLemmas.{negative}
use Rattle.fulltext.proofs.writing.put_token.Goals as goal

pub returns-in-Negative : goal.returns-in-Negative
returns-in-Negative g c = rw (c.in-Negative.is, negative (number_of_digits c.args.number.now)) (writes_then c.put_minus.ensures c.put_decimal-in-Negative.ensures)
