use Rattle.std.proofs.Common.{◌≡◌, List, ℕ, []}
use Rattle.btor2.specs.Trace.{Frame}
use Rattle.witness.specs.Judgements.{Judges}
use Rattle.witness.specs.ClosedWords.{IsClosedTrace}
use Rattle.std.proofs.lemmas.Option.{IfSome_then}
use Rattle.rises.specs.FirstRises.{word_first_rises}
use Rattle.rises.specs.Notes.{NotesWords}
use Rattle.rises.proofs.noting.judge_words_with_rises.Goals as goal

pub returns-in-Ok-take_source-clause-judged : goal.returns-in-Ok-take_source-clause-judged
returns-in-Ok-take_source-clause-judged g c =
    IfSome_then _ {P = λ (text : List ℕ). NotesWords c.args.model.now c.take_source.new.taker text} {Q = λ (text : List ℕ). Judges c.args.model.now text c.finish.result.0} (c.in-Ok-take_source.ensures.whole c.args.model.now [] c.in-Ok.ensures.ok) (c.finish.ensures.judged c.args.model.now)

pub returns-in-Ok-take_source-clause-rises : goal.returns-in-Ok-take_source-clause-rises
returns-in-Ok-take_source-clause-rises g c =
    IfSome_then _ {P = λ (text : List ℕ). NotesWords c.args.model.now c.take_source.new.taker text} {Q = λ (text : List ℕ). (fs : List Frame) → IsClosedTrace c.args.model.now text fs → c.finish.result.1 ≡ word_first_rises c.args.model.now text fs} (c.in-Ok-take_source.ensures.whole c.args.model.now [] c.in-Ok.ensures.ok) (λ text notes fs trace. c.finish.ensures.firsts c.args.model.now text fs notes trace)
