use Rattle.std.proofs.Common.{ap, length}
use Rattle.restore.specs.declared.place.Place.{Place}
use Rattle.base.specs.Lines.{all_lines}
use Rattle.restore.specs.Reading.{before_mark}
use Rattle.restore.specs.Steps.{read_at}
use Rattle.restore.proofs.laws.reader_gives_the_text.Goals as goal

pub returns : goal.returns
returns c reader text start = ap (λ (p : Place). read_at p (length reader.frame) (all_lines (before_mark text))) start
