use Rattle.std.proofs.Common.{inl}
use Rattle.commands.specs.Done.{name_of}
use Rattle.commands.proofs.FailureLemmas.{no_memory_told, over_second}
use Rattle.commands.proofs.on_files.run_on_files.Goals as goal

pub returns-in-Ok-clause-failed : goal.returns-in-Ok-clause-failed
returns-in-Ok-clause-failed g c = λ three.
    let h = c.run_on_texts-status-in-Ok.ensures.failed three in
    rw c.into_device.ensures
    (h.0, h.1, h.2, _, _, _, _, over_second (λ unnamed. (g.F.Output.Sink.written c.new-out.result.device, (rw c.new-out.ensures.device c.in-Ok.ensures.bytes, unnamed))) h.3)

pub returns-in-Err-clause-failed : goal.returns-in-Err-clause-failed
returns-in-Err-clause-failed g c = λ three.
    (0, 0, 0, 0, 0, 0, 0, inl (no_memory_told c.tell_no_memory.result c.args.order.now.first.now (name_of c.args.order.now.second) (name_of c.args.order.now.third) (name_of c.args.order.now.output) (g.E.Sink.written c.args.err.now) (g.E.Sink.written c.tell_no_memory.new.err) (g.E.Sink.failures c.args.err.now) (g.E.Sink.failures c.tell_no_memory.new.err) c.tell_no_memory.ensures.told c.tell_no_memory.ensures.counted))
