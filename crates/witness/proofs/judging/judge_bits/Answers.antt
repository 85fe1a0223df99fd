use Rattle.std.proofs.Common.{List, ℕ, []}
use Rattle.witness.specs.BitJudgements.{BitJudges}
use Rattle.witness.specs.Accepted.{BitAcceptsExactly}
use Rattle.witness.specs.BitStands.{StandsForBits}
use Rattle.std.proofs.lemmas.Option.{IfSome_then}
use Rattle.witness.proofs.judging.judge_bits.Goals as goal

pub returns-in-Ok-take_source-clause-judged : goal.returns-in-Ok-take_source-clause-judged
returns-in-Ok-take_source-clause-judged g c =
    IfSome_then _ {P = λ (text : List ℕ). StandsForBits c.args.circuit.now c.take_source.new.taker text} {Q = λ (text : List ℕ). BitJudges c.args.circuit.now text c.finish.result} (c.in-Ok-take_source.ensures.whole c.args.circuit.now [] c.in-Ok.ensures) (c.finish.ensures.judged c.args.circuit.now)

pub returns-in-Ok-take_source-clause-accepted : goal.returns-in-Ok-take_source-clause-accepted
returns-in-Ok-take_source-clause-accepted g c =
    IfSome_then _ {P = λ (text : List ℕ). StandsForBits c.args.circuit.now c.take_source.new.taker text} {Q = λ (text : List ℕ). BitAcceptsExactly c.args.circuit.now text c.finish.result} (c.in-Ok-take_source.ensures.whole c.args.circuit.now [] c.in-Ok.ensures) (λ text. c.finish.ensures.accepted c.args.circuit.now text c.inputs-inputs.ensures.valid)
