use Rattle.std.proofs.Common.{List, ℕ, []}
use Rattle.witness.specs.Judgements.{Judges}
use Rattle.witness.specs.Accepted.{AcceptsExactly}
use Rattle.witness.specs.WordStands.{StandsForWitness}
use Rattle.std.proofs.lemmas.Option.{IfSome_then}
use Rattle.witness.proofs.judging.judge_words.Goals as goal

pub returns-in-Ok-take_source-clause-judged : goal.returns-in-Ok-take_source-clause-judged
returns-in-Ok-take_source-clause-judged g c =
    IfSome_then _ {P = λ (text : List ℕ). StandsForWitness c.args.model.now c.take_source.new.taker text} {Q = λ (text : List ℕ). Judges c.args.model.now text c.finish.result} (c.in-Ok-take_source.ensures.whole c.args.model.now [] c.in-Ok.ensures.ok) (c.finish.ensures.judged c.args.model.now)

pub returns-in-Ok-take_source-clause-accepted : goal.returns-in-Ok-take_source-clause-accepted
returns-in-Ok-take_source-clause-accepted g c =
    IfSome_then _ {P = λ (text : List ℕ). StandsForWitness c.args.model.now c.take_source.new.taker text} {Q = λ (text : List ℕ). AcceptsExactly c.args.model.now text c.finish.result} (c.in-Ok-take_source.ensures.whole c.args.model.now [] c.in-Ok.ensures.ok) (λ text. c.finish.ensures.accepted c.args.model.now text c.items-items.ensures.well_formed)
