use Rattle.std.proofs.Common.{ℕ}
use Rattle.verbs.proofs.UnfittingLemmas.{none_named, unfitted_ready}
use Rattle.verbs.proofs.unfitting.unfit_ready.Goals as goal

pub returns-in-Err-clause-refused : goal.returns-in-Err-clause-refused
returns-in-Err-clause-refused g c =
    let ready = c.requires.ready.ready in
    rw c.from.ensures (none_named ℕ c.requires.ready.wide c.args.ready.now.narrow c.in-Err.fault _ ready.fit ready.each_has_next_or_is_free c.in-Err.ensures.answer)

pub returns-in-Ok-clause-unfitted : goal.returns-in-Ok-clause-unfitted
returns-in-Ok-clause-unfitted g c =
    let h = c.requires.ready in
    unfitted_ready c.args.named c.args.text.now c.args.ready.now h _ _ _ c.in-Ok.judgement c.in-Ok.ensures.judged c.in-Ok.ensures.written (c.in-Ok.ensures.kept h.wide h.ready.fit h.known.shape)
