use Rattle.std.proofs.Common.{◌≡◌, Some, codes}
use Rattle.subcommands.specs.Subjects.{bad_said, frame_said, says}
use Rattle.subcommands.proofs.SubjectLemmas.{then_told}
use Rattle.subcommands.proofs.subjects.tell_first.Goals as goal

pub returns-in_ok-tell_reached-in-Some-clause-written : goal.returns-in_ok-tell_reached-in-Some-clause-written
returns-in_ok-tell_reached-in-Some-clause-written g c =
    let is : c.args.first ≡ Some c.in-Some.frame = c.in-Some.is in
    rw is (then_told c.tell_bad_said.result (g.E.Sink.written c.args.err.now) (g.E.Sink.written c.tell_reached.new.err) (g.E.Sink.written c.tell_bad_said.new.err) (says (codes "b") c.args.number (frame_said c.in-Some.frame)) (bad_said c.args.subject c.args.number)
    c.in_ok-tell_reached-in-Some.ensures.written c.tell_bad_said.ensures.written)
