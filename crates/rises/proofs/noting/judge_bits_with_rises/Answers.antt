use Rattle.std.proofs.Common.{List, ℕ, [], true, refl}
use Rattle.witness.specs.BitJudgements.{BitJudges}
use Rattle.std.proofs.lemmas.Option.{IfSome_then}
use Rattle.rises.specs.FirstRises.{AreBitFirstRises}
use Rattle.rises.specs.Notes.{NotesBits}
use Rattle.rises.proofs.noting.judge_bits_with_rises.Goals as goal

pub returns-in-Ok-take_source-clause-judged : goal.returns-in-Ok-take_source-clause-judged
returns-in-Ok-take_source-clause-judged g c =
    IfSome_then _ {P = λ (text : List ℕ). NotesBits true c.args.circuit.now c.take_source.new.taker text} {Q = λ (text : List ℕ). BitJudges c.args.circuit.now text c.finish.result.0} (c.in-Ok-take_source.ensures.whole (true, c.args.circuit.now) [] c.in-Ok.ensures) (c.finish.ensures.judged true c.args.circuit.now)

pub returns-in-Ok-take_source-clause-rises : goal.returns-in-Ok-take_source-clause-rises
returns-in-Ok-take_source-clause-rises g c =
    IfSome_then _ {P = λ (text : List ℕ). NotesBits true c.args.circuit.now c.take_source.new.taker text} {Q = λ (text : List ℕ). AreBitFirstRises c.args.circuit.now text c.finish.result.1} (c.in-Ok-take_source.ensures.whole (true, c.args.circuit.now) [] c.in-Ok.ensures) (λ text notes. c.finish.ensures.firsts true c.args.circuit.now text notes refl)
