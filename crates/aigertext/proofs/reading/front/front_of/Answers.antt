use Rattle.std.proofs.Common.{arith}
use Rattle.aigertext.proofs.InOrderLemmas.{gates_within, has_front}
use Rattle.aigertext.proofs.reading.front.front_of.Goals as goal

pub overflow_sub-result : goal.overflow_sub-result
overflow_sub-result c =
    gates_within c.in-Ok.form c.in-Ok.counts c.args.text.now c.in-Ok.lines.now c.in_ok-latches.latches.now c.in-Ok-uses.gates.now c.in-Ok-uses.front c.in-Ok.ensures.gives (omega arith) c.in_ok-latches.ensures c.in-Ok-uses.ensures.reads

pub returns : goal.returns
returns c =
    has_front c.in-Ok.form c.in-Ok.counts c.args.text.now c.in-Ok.lines.now c.in_ok-latches.latches.now c.in-Ok-uses.gates.now c.in-Ok-uses.front c.in-Ok.ensures.gives (omega arith) c.in_ok-latches.ensures c.in-Ok-uses.ensures.reads
    c.in-Ok-uses.ensures.form c.in-Ok-uses.ensures.counts c.in-Ok.ensures.small
