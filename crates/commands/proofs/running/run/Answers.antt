use Rattle.std.proofs.Common.{ℕ, List, Option, Bor, inl}
use Rattle.std.specs.Prelude.{option_map}
use Rattle.commands.proofs.FailureLemmas.{told_failed, untold_failed}
use Rattle.commands.proofs.running.run.Goals as goal

pub returns-in-Ok-tell-clause-failed : goal.returns-in-Ok-tell-clause-failed
returns-in-Ok-tell-clause-failed g c = λ three.
    let second : Option (List ℕ) = option_map (λ (name : Bor (List ℕ)). name.now) c.args.order.now.second in
    let third : Option (List ℕ) = option_map (λ (name : Bor (List ℕ)). name.now) c.args.order.now.third in
    let output : Option (List ℕ) = option_map (λ (name : Bor (List ℕ)). name.now) c.args.order.now.output in
    told_failed g.E.Sink.written c.args.err.now c.obey_and_object.new.err c.in-Err.refusal c.args.order.now.first.now second third output c.reason_of-reason.result c.in-Ok-tell.status (g.E.Sink.written c.tell.new.err) (g.A.Source.failures c.args.first.now) (g.A.Source.failures c.obey_and_object.new.first) (g.B.Source.failures c.args.second.now) (g.B.Source.failures c.obey_and_object.new.second) (g.T.Source.failures c.args.third.now) (g.T.Source.failures c.obey_and_object.new.third) (g.O.Sink.failures c.args.out.now) (g.O.Sink.failures c.obey_and_object.new.out) (g.E.Sink.failures c.args.err.now) (g.E.Sink.failures c.obey_and_object.new.err) (g.E.Sink.failures c.tell.new.err)
    c.in-Err.ensures.counted c.in-Ok-tell.ensures.counted c.in-Err.ensures.untold c.in-Ok-tell.ensures.told three

pub returns-in-Err-tell-clause-failed : goal.returns-in-Err-tell-clause-failed
returns-in-Err-tell-clause-failed g c = λ three.
    inl (
    untold_failed c.in-Err.refusal (g.A.Source.failures c.args.first.now) (g.A.Source.failures c.obey_and_object.new.first) (g.B.Source.failures c.args.second.now) (g.B.Source.failures c.obey_and_object.new.second) (g.T.Source.failures c.args.third.now) (g.T.Source.failures c.obey_and_object.new.third) (g.O.Sink.failures c.args.out.now) (g.O.Sink.failures c.obey_and_object.new.out) (g.E.Sink.failures c.args.err.now) (g.E.Sink.failures c.obey_and_object.new.err) (g.E.Sink.failures c.tell.new.err)
    c.in-Err-tell.ensures.untold c.in-Err.ensures.counted c.in-Err-tell.ensures.counted
    )
