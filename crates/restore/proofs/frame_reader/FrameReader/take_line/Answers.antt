use Rattle.std.specs.Io.KnownBytes.{prepend_known}
use Rattle.restore.specs.Steps.{FramesReader}
use Rattle.restore.proofs.MarkLemmas.{found_takes}
use Rattle.restore.proofs.StepLemmas.{agree_by}
use Rattle.restore.proofs.frame_reader.FrameReader.take_line.Goals as goal

pub returns-clause-found : goal.returns-clause-found
returns-clause-found g c =
    let old : FramesReader = record { frame = c.self.inside.progress.bits.items; place = c.self.inside.progress.place; rest = c.self.inside.lines.rest } in
    let new : FramesReader = record { frame = c.take.new.self.bits.items; place = c.take.new.self.place; rest = c.advance.new.self.rest } in
    let takes = found_takes c.self.inside.lines c.advance.new.self (g.S.Source.to_come c.args.source.now) (g.S.Source.to_come c.advance.new.source) c.in-Ok.is_whole c.found_line-is_last.result.0.now c.found_line-is_last.result.1 c.in-Ok.ensures.bytes c.found_line-is_last.ensures in
    rw (← c.self.view_is) (agree_by (prepend_known c.self.inside.lines.rest (g.S.Source.to_come c.args.source.now)) (prepend_known c.advance.new.self.rest (g.S.Source.to_come c.advance.new.source)) c.found_line-is_last.result.0.now c.found_line-is_last.result.1 c.take.result old new takes c.take.ensures.reads)
