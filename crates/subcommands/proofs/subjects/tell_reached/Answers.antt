use Rattle.std.proofs.Common.{◌++◌, codes, decimal}
use Rattle.subcommands.specs.Subjects.{frame_said, says}
use Rattle.subcommands.proofs.SubjectLemmas.{same_told, says_of, then_told}
use Rattle.subcommands.proofs.subjects.tell_reached.Goals as goal

pub returns-clause-written : goal.returns-clause-written
returns-clause-written g c =
    same_told c.tell_frame.result (g.E.Sink.written c.args.err.now) (g.E.Sink.written c.tell_frame.new.err) _ (says (codes "b") c.args.number (frame_said c.args.frame))
    (says_of (codes "b") (decimal c.args.number) (codes " is ") (frame_said c.args.frame ++ codes "\n"))
    (then_told c.tell_frame.result (g.E.Sink.written c.args.err.now) (g.E.Sink.written c.tell_number.new.err) (g.E.Sink.written c.tell_frame.new.err) (codes "b" ++ (decimal c.args.number ++ codes " is ")) (frame_said c.args.frame ++ codes "\n")
    c.in_ok-tell_number.ensures.written c.tell_frame.ensures.written)
