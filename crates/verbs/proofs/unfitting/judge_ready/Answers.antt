use Rattle.std.proofs.Common.{ℕ}
use Rattle.verbs.proofs.UnfittingLemmas.{none_named_judging, of_ready}
use Rattle.verbs.proofs.unfitting.judge_ready.Goals as goal

pub returns-in-Ok-clause-judged : goal.returns-in-Ok-clause-judged
returns-in-Ok-clause-judged g c =
    let ready = c.requires.ready in
    record {
      wide = ready.wide;
      narrow = c.args.ready.now.narrow;
      ready = ready.ready;
      judged = c.in-Ok.ensures.judged ready.wide (of_ready c.args.text.now c.args.ready.now ready);
    }

pub returns-in-Err-clause-refused : goal.returns-in-Err-clause-refused
returns-in-Err-clause-refused g c =
    let ready = c.requires.ready.ready in
    rw c.from.ensures (none_named_judging ℕ c.requires.ready.wide c.args.ready.now.narrow c.in-Err.fault _ ready.fit ready.each_has_next_or_is_free c.in-Err.ensures.answer)
