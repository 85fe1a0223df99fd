use Rattle.base.proofs.PenLemmas.{Writing}
use Rattle.unfit.specs.Joined.{name_at}
use Rattle.unfit.specs.Steps.{part_text}
use Rattle.unfit.proofs.LineLemmas.{lines_from}
use Rattle.unfit.proofs.words.put_words.Given as goal

abbrev pub invariant-loop-index : goal.invariant-loop-index
invariant-loop-index g l = Writing g.K.Sink.written g.K.Sink.failures l.initial.sink l.sink l.initial.pen l.pen (part_text (g.T.Titles.fronts l.titles) l.named (g.T.Titles.symbols l.titles) l.widths l.frame l.pieces) (lines_from (g.T.Titles.fronts l.titles) l.frame (name_at l.named (g.T.Titles.symbols l.titles) l.frame) l.widths l.index l.rest)
