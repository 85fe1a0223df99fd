use Rattle.std.proofs.Common.{Bool, List, [], ◌∷◌, ◌++◌, subst}
use Rattle.restore.specs.Putting.{HasTaken}
use Rattle.restore.proofs.form_restoring.take_frame.Goals as goal

pub returns-clause-takes : goal.returns-clause-takes
returns-clause-takes g c start from first given many h =
    subst (λ (bits : List Bool). HasTaken (g.W.Writer.put_for c.args.writer.now) g.K.Sink.written g.K.Sink.failures start c.take_frame.new.sink from c.take_frame.new.pen first (given ++ bits ∷ []) c.take_frame.new.self) c.write_bits.ensures (c.take_frame.ensures.takes start from first given h)
