use Rattle.subcommands.specs.Restoring.{lifting_said_of}
use Rattle.subcommands.proofs.RestoreLemmas.{lifted_told}
use Rattle.subcommands.proofs.lifting.tell_lifted.Goals as goal

pub returns-in-Ok-clause-told : goal.returns-in-Ok-clause-told
returns-in-Ok-clause-told g c =
    rw c.in-Ok.is (lifted_told c.tell_judgement.result (lifting_said_of c.args.named c.args.subject) c.in-Ok.judgement c.in-Ok.firsts (g.E.Sink.written c.args.err.now) (g.E.Sink.written c.tell_judgement.new.err) c.tell_judgement.ensures.written c.tell_judgement.ensures.so)
