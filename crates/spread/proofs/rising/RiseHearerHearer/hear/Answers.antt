use Rattle.std.proofs.Common.{List, ℕ, ◌++◌, ◌∷◌, []}
use Rattle.spread.specs.Passing.{passing_text}
use Rattle.spread.proofs.RisingLemmas.{hears_same, hears_more}
use Rattle.spread.proofs.rising.RiseHearerHearer.hear.Goals as goal

pub returns-then-closed-self : goal.returns-then-closed-self
returns-then-closed-self c = λ over shape narrow text good cut ended short stands hears.
    hears_same shape narrow text c.args._line.now good cut short c.requires ended c.args.self.now hears c.closed_frames-closed.result (c.closed_frames-closed.ensures narrow (passing_text shape (text ++ (c.args._line.now ++ 10 ∷ []))) stands) c.if-closed-self.true

pub returns : goal.returns
returns c = λ over shape narrow text good cut ended short stands hears.
    let whole : List ℕ = text ++ (c.args._line.now ++ 10 ∷ []) in
    hears_more shape narrow text c.args._line.now good cut short c.requires ended c.args.self.now hears c.closed_frames-closed.result (c.closed_frames-closed.ensures narrow (passing_text shape whole) stands) c.if-closed-self.false
    c.note_words.new.firsts (λ fs trace. c.note_words.ensures narrow (passing_text shape whole) fs stands trace)
