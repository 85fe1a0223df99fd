use Rattle.std.proofs.Common.{List, ℕ}
use Rattle.std.specs.Io.KnownBytes.{Appends}
use Rattle.witness.specs.BitJudgements.{BitJudges}
use Rattle.witness.specs.Accepted.{BitAcceptsExactly}
use Rattle.witness.proofs.AcceptLemmas.{bit_accepts_exactly}
use Rattle.std.proofs.lemmas.Option.{IfSome_then}
use Rattle.rises.specs.FirstRises.{AreBitFirstRises}
use Rattle.lift.specs.Lifted.{lifted_with}
use Rattle.lift.specs.Stands.{LiftsWith}
use Rattle.lift.specs.Verdicts.{KeepsVerdictIn}
use Rattle.lift.proofs.EngineLemmas.{keeps_either}
use Rattle.lift.proofs.lifting.lift_with_rises.Goals as goal

pub returns-in-Ok-lift_through-clause-judged : goal.returns-in-Ok-lift_through-clause-judged
returns-in-Ok-lift_through-clause-judged g c =
    IfSome_then _ {P = λ (text : List ℕ). LiftsWith c.args.named c.args.model.now c.args.circuit.now c.lift_through.new.lifting.lifter text × Appends (g.K.Sink.written c.args.sink.now) (g.K.Sink.written c.lift_through.new.sink) (lifted_with c.args.named c.args.model.now c.args.circuit.now text)} {Q = λ (text : List ℕ). BitJudges c.args.circuit.now text c.finish.result.0} (c.in-Ok-lift_through.ensures.lifts c.args.named c.args.model.now c.args.circuit.now c.in-Ok.ensures) (λ text both. c.finish.ensures.judged c.args.named c.args.model.now c.args.circuit.now text both.0)

pub returns-in-Ok-lift_through-clause-accepted : goal.returns-in-Ok-lift_through-clause-accepted
returns-in-Ok-lift_through-clause-accepted g c =
    IfSome_then _ {P = λ (text : List ℕ). LiftsWith c.args.named c.args.model.now c.args.circuit.now c.lift_through.new.lifting.lifter text × Appends (g.K.Sink.written c.args.sink.now) (g.K.Sink.written c.lift_through.new.sink) (lifted_with c.args.named c.args.model.now c.args.circuit.now text)} {Q = λ (text : List ℕ). BitAcceptsExactly c.args.circuit.now text c.finish.result.0} (c.in-Ok-lift_through.ensures.lifts c.args.named c.args.model.now c.args.circuit.now c.in-Ok.ensures) (λ text both. bit_accepts_exactly c.args.circuit.now text c.finish.result.0 c.requires.circuit (c.finish.ensures.judged c.args.named c.args.model.now c.args.circuit.now text both.0))

pub returns-in-Ok-lift_through-clause-rises : goal.returns-in-Ok-lift_through-clause-rises
returns-in-Ok-lift_through-clause-rises g c = λ on.
    IfSome_then _ {P = λ (text : List ℕ). LiftsWith c.args.named c.args.model.now c.args.circuit.now c.lift_through.new.lifting.lifter text × Appends (g.K.Sink.written c.args.sink.now) (g.K.Sink.written c.lift_through.new.sink) (lifted_with c.args.named c.args.model.now c.args.circuit.now text)} {Q = λ (text : List ℕ). AreBitFirstRises c.args.circuit.now text c.finish.result.1} (c.in-Ok-lift_through.ensures.lifts c.args.named c.args.model.now c.args.circuit.now c.in-Ok.ensures) (λ text both. c.finish.ensures.firsts c.args.named c.args.model.now c.args.circuit.now text both.0 on)

pub returns-in-Ok-lift_through-clause-kept : goal.returns-in-Ok-lift_through-clause-kept
returns-in-Ok-lift_through-clause-kept g c =
    IfSome_then _ {P = λ (text : List ℕ). LiftsWith c.args.named c.args.model.now c.args.circuit.now c.lift_through.new.lifting.lifter text × Appends (g.K.Sink.written c.args.sink.now) (g.K.Sink.written c.lift_through.new.sink) (lifted_with c.args.named c.args.model.now c.args.circuit.now text)} {Q = λ (text : List ℕ). KeepsVerdictIn c.args.model.now c.args.circuit.now text (lifted_with c.args.named c.args.model.now c.args.circuit.now text) c.finish.result.0} (c.in-Ok-lift_through.ensures.lifts c.args.named c.args.model.now c.args.circuit.now c.in-Ok.ensures) (λ text both.
    keeps_either c.args.model.now c.args.circuit.now (λ t j. c.lifting_keeps_the_verdict.ensures c.args.model.now c.args.circuit.now t j c.requires) (λ t j. c.names_keep_the_verdict.ensures c.args.model.now c.args.circuit.now t j c.requires) c.args.named text c.finish.result.0
    (c.finish.ensures.judged c.args.named c.args.model.now c.args.circuit.now text both.0))

pub returns-in-Ok-lift_through-clause-written : goal.returns-in-Ok-lift_through-clause-written
returns-in-Ok-lift_through-clause-written g c =
    IfSome_then _ {P = λ (text : List ℕ). LiftsWith c.args.named c.args.model.now c.args.circuit.now c.lift_through.new.lifting.lifter text × Appends (g.K.Sink.written c.args.sink.now) (g.K.Sink.written c.lift_through.new.sink) (lifted_with c.args.named c.args.model.now c.args.circuit.now text)} {Q = λ (text : List ℕ). Appends (g.K.Sink.written c.args.sink.now) (g.K.Sink.written c.lift_through.new.sink) (lifted_with c.args.named c.args.model.now c.args.circuit.now text)} (c.in-Ok-lift_through.ensures.lifts c.args.named c.args.model.now c.args.circuit.now c.in-Ok.ensures) (λ text both. both.1)

pub returns-in-Err-lift_through-clause-beginning : goal.returns-in-Err-lift_through-clause-beginning
returns-in-Err-lift_through-clause-beginning g c = c.in-Err-lift_through.ensures.lifts c.args.named c.args.model.now c.args.circuit.now c.in-Ok.ensures

pub lift_through-requires-clause-lifts : goal.lift_through-requires-clause-lifts
lift_through-requires-clause-lifts g c = (record { named = c.args.named; items = c.args.model.now; circuit = c.args.circuit.now }, c.in-Ok.ensures)
