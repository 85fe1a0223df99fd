use Rattle.std.proofs.Common.{◌≡◌, ℕ, ◌<◌, ◌^◌, List, Result, length, true, refl, sym, ap, subst, ◌∙◌}
use Rattle.btor2.specs.declared.item.Item.{Item}
use Rattle.witness.specs.declared.word_reader.Place.{Place as CodePlace}
use Rattle.witness.specs.declared.word_reader.Place.TheVariants as code
use Rattle.witness.specs.Texts.{shape_of}
use Rattle.witness.specs.declared.why.Why.{Why}
use Rattle.witness.specs.Admits.{Read}
use Rattle.witness.specs.KeptLines.{AreAlike, IsNarrowShape}
use Rattle.witness.specs.WordStands.{WordReader, ReadsWords, GivesLine, is_alone, place_of}
use Rattle.witness.proofs.WordReaderLemmas.{reads_of_other, trailing_refused}
use Rattle.witness.proofs.KeptLineLemmas.{gives_alike}
use Rattle.witness.proofs.word_reader.WordReader.admit.Goals as goal

-- at a place where a line is judged by its bytes alone
by_bytes : (items : List Item) (r : Read) (line bytes : List ℕ) (old new : WordReader) (result : Result (Unit {0}) Why) (x : CodePlace) → old.place ≡ x → is_alone (place_of x) ≡ true → IsNarrowShape (shape_of old.play.items)
    → ReadsWords items old r bytes → AreAlike line bytes → length r.closed < 2 ^ 62 → (ReadsWords items old r line → old.place ≡ x → GivesLine items r line new result) → GivesLine items r bytes new result
by_bytes items r line bytes old new result x at alone small reads alike few gives =
    let here : is_alone (place_of old.place) ≡ true = ap (λ (y : CodePlace). is_alone (place_of y)) at ∙ alone in
    gives_alike items r line bytes new result (subst (λ (l : List Item). IsNarrowShape (shape_of l)) reads.play.items_are small) few alike (sym (ap is_alone reads.place) ∙ here)
    (gives (reads_of_other items r bytes old old refl reads line here) at)

pub returns-in-Status-clause-line : goal.returns-in-Status-clause-line
returns-in-Status-clause-line c items r bytes reads alike few =
    by_bytes items r c.args.line.now bytes c.args.self.now c.admit_status.new.self c.admit_status.result code.Status (sym (ap (λ (q : WordReader). q.place) c.self.view_is) ∙ c.in-Status.is) refl
    (subst (λ (q : WordReader). IsNarrowShape (shape_of q.play.items)) c.self.view_is c.model-model.ensures.small) reads alike few (c.admit_status.ensures.line items r)

pub returns-in-Parts-clause-line : goal.returns-in-Parts-clause-line
returns-in-Parts-clause-line c items r bytes reads alike few =
    by_bytes items r c.args.line.now bytes c.args.self.now c.admit_parts.new.self c.admit_parts.result code.Parts (sym (ap (λ (q : WordReader). q.place) c.self.view_is) ∙ c.in-Parts.is) refl
    (subst (λ (q : WordReader). IsNarrowShape (shape_of q.play.items)) c.self.view_is c.model-model.ensures.small) reads alike few (c.admit_parts.ensures.line items r)

pub returns-in-States-clause-line : goal.returns-in-States-clause-line
returns-in-States-clause-line c items r bytes reads alike few =
    by_bytes items r c.args.line.now bytes c.args.self.now c.admit_states.new.self c.admit_states.result code.States (sym (ap (λ (q : WordReader). q.place) c.self.view_is) ∙ c.in-States.is) refl
    (subst (λ (q : WordReader). IsNarrowShape (shape_of q.play.items)) c.self.view_is c.model-model.ensures.small) reads alike few (λ here at. c.admit_states.ensures.line items r here at few)

pub returns-in-Frame-clause-line : goal.returns-in-Frame-clause-line
returns-in-Frame-clause-line c items r bytes reads alike few =
    by_bytes items r c.args.line.now bytes c.args.self.now c.admit_frame.new.self c.admit_frame.result code.Frame (sym (ap (λ (q : WordReader). q.place) c.self.view_is) ∙ c.in-Frame.is) refl
    (subst (λ (q : WordReader). IsNarrowShape (shape_of q.play.items)) c.self.view_is c.model-model.ensures.small) reads alike few (λ here at. c.admit_frame.ensures.line items r here at few)

pub returns-in-Claims-clause-line : goal.returns-in-Claims-clause-line
returns-in-Claims-clause-line c items r bytes reads alike few = c.admit_claims.ensures.line items r bytes reads (sym (ap (λ (q : WordReader). q.place) c.self.view_is) ∙ c.in-Claims.is)

pub returns-in-End-clause-line : goal.returns-in-End-clause-line
returns-in-End-clause-line c items r bytes reads alike few = trailing_refused items r bytes c.args.self.now c.args.self.now refl reads (sym (ap (λ (q : WordReader). q.place) c.self.view_is) ∙ c.in-End.is)
