use Rattle.std.proofs.Common.{◌≡◌, ℕ, ◌∷◌, ◌++◌, Bool, true, false, List, [], sym, subst, ap, ◌∙◌}
use Rattle.btor2.specs.declared.item.Item.{Item}
use Rattle.btor2.specs.Trace.{Frame}
use Rattle.spread.specs.Passing.{passing_text}
use Rattle.witness.specs.ClosedWords.{IsClosedTrace, last_word}
use Rattle.witness.specs.WordStands.{StandsForWitness}
use Rattle.fulljudge.specs.Compared.{FirstWords, IsOfStates, HearsFirst, IsFound, told_more}
use Rattle.fulljudge.proofs.HearLemmas.{told_keeps}
use Rattle.fulljudge.proofs.FirstFrameLemmas.{stays_first, goes_on_first, closes_first}
use Rattle.fulljudge.proofs.first_words.FirstWordsHearer.hear.Goals as goal

pub returns-then-self : goal.returns-then-self
returns-then-self c = λ of shape narrow text good cut ended short stands hears.
    (hears.0, stays_first shape narrow text c.args.line.now good cut short c.requires ended c.args.self.now (ap (λ (h : FirstWords). h.closed) (sym c.self.view_is) ∙ c.if-self.true) hears.1)

pub returns-then-closed_frames-eq0 : goal.returns-then-closed_frames-eq0
returns-then-closed_frames-eq0 c = λ of shape narrow text good cut ended short stands hears.
    let whole : List ℕ = text ++ (c.args.line.now ++ 10 ∷ []) in
    let open' : c.args.self.now.closed ≡ false = ap (λ (h : FirstWords). h.closed) (sym c.self.view_is) ∙ c.if-self.false in
    let more : IsOfStates of (told_more c.args.self.now c.args.line.now) = told_keeps of c.args.self.now c.args.line.now hears.0 in
    subst (λ (h : FirstWords). HearsFirst of h shape narrow whole) (sym c.hear_told.ensures)
    (more, goes_on_first shape narrow text c.args.line.now good cut short c.requires ended c.args.self.now open' hears.1 (sym (c.closed_frames.ensures narrow (passing_text shape whole) stands) ∙ c.if-closed_frames-eq0.true))

pub returns : goal.returns
returns c = λ of shape narrow text good cut ended short stands hears.
    let whole : List ℕ = text ++ (c.args.line.now ++ 10 ∷ []) in
    let open' : c.args.self.now.closed ≡ false = ap (λ (h : FirstWords). h.closed) (sym c.self.view_is) ∙ c.if-self.false in
    let d = c.first_otherwise-self-inside.result in
    let compares : (items : List Item) (t : List ℕ) (fs : List Frame) → StandsForWitness items c.args.judge.now t → IsClosedTrace items t fs → IsFound (last_word items t fs) c.args.self.now.flags c.args.self.now.states c.args.self.now.words d =
    λ items t fs s trace.
    subst (λ (h : FirstWords). IsFound (last_word items t fs) h.flags h.states h.words d) c.self.view_is
    (subst (λ (flags : List Bool). IsFound (last_word items t fs) flags c.self.inside.states.now c.self.inside.words.now d) c.as_slice.ensures.value (c.first_otherwise-self-inside.ensures items t fs s trace)) in
    subst (λ (h : FirstWords). HearsFirst of (record h { closed = true; found = d }) shape narrow whole) (sym c.self.view_is)
    (record { sorts = hears.0.sorts; words = hears.0.words; count = hears.0.count }, closes_first shape narrow text c.args.line.now good cut short c.requires ended c.args.self.now open' hears.1 c.args.judge.now d (λ none. c.if-closed_frames-eq0.false (c.closed_frames.ensures narrow (passing_text shape whole) stands ∙ none)) stands compares)
