use Rattle.std.proofs.Common.{◌≡◌, ℕ, suc, ◌<◌, ◌^◌, ◌&&◌, Bool, List, Ok, length, decimal, ap, subst, sym, ◌∙◌, arith, ◌∷◌, ◌++◌, refl}
use Rattle.std.proofs.lemmas.Slice.Eq.{bytes_eq-Decides}
use Rattle.btor2.specs.Items.{is_input}
use Rattle.base.proofs.DecimalLemmas.{decimal_without}
use Rattle.witness.specs.declared.word_reader.Place.{Place as CodePlace}
use Rattle.witness.specs.Texts.{widths_of, assignment_line}
use Rattle.witness.specs.Admits.{opens_frame}
use Rattle.witness.specs.PlainLines.{NoAssignment}
use Rattle.witness.specs.WordPlays.{WordPlay}
use Rattle.witness.specs.WordStands.{WordReader, is_alone, is_status, place_of}
use Rattle.witness.proofs.AssignmentLemmas.{IsPlain, assignment_line_is_line, assignment_line_is_plain}
use Rattle.witness.proofs.WordReaderLemmas.{frames_are, next_frame, input_more}
use Rattle.witness.proofs.word_reader.WordReader.take_in_frame.Goals as goal

pub returns-in-Some-clause-line : goal.returns-in-Some-clause-line
returns-in-Some-clause-line c there =
    let q : WordReader = record { play = c.self.inside.play; place = c.self.inside.place; claims = c.self.inside.claims; claimed = c.self.inside.claimed; has_free = c.self.inside.has_free } in
    let taken = c.in-Some.ensures.line in
    let widths : List ℕ = widths_of is_input q.play.items in
    let small : length widths < 2 ^ 64 = c.model-model.ensures.small.inputs.few in
    let line : List ℕ = assignment_line widths taken.assignment in
    let plain : IsPlain line = assignment_line_is_plain widths taken.assignment small taken.valid in
    record {
      line = line;
      is = taken.is;
      whole = assignment_line_is_line widths taken.assignment small taken.valid;
      alone = ap (λ (x : CodePlace). is_alone (place_of x)) there;
      behind = ap (λ (x : CodePlace). is_status (place_of x)) there;
      gives = λ items r reads few.
          let no_states = ap (λ (b : Bool). b && q.has_free) (plain.no_states (decimal (suc (length r.closed)))) in
          input_more items r line _ _ c.self.view_is reads c.take_input.new.self (Ok tt) there (plain.no_frame (decimal (suc (length r.closed)))) no_states plain.no_end plain.no_part taken.gives;
    }

pub returns-clause-line : goal.returns-clause-line
returns-clause-line c there =
    let same = ap (λ (p : WordPlay). record { play = p; place = c.self.inside.place; claims = c.self.inside.claims; claimed = c.self.inside.claimed; has_free = c.self.inside.has_free }) c.in_default.ensures.kept ∙ c.self.view_is in
    let next : ℕ = suc c.take_input.new.self.frames in
    let line : List ℕ = 64 ∷ decimal next in
    record {
      line = line;
      is = c.in_ok-rest.ensures.line;
      whole = decimal_without 10 next (omega arith) c.in_ok-rest.ensures.small;
      alone = ap (λ (x : CodePlace). is_alone (place_of x)) there;
      behind = ap (λ (x : CodePlace). is_status (place_of x)) there;
      gives = λ items r reads few.
          let count : next ≡ suc (length r.closed) = ap suc (frames_are items r line _ _ same reads) in
          next_frame items r line _ _ same reads c.close.new.self there (ap (λ (n : ℕ). opens_frame n line) (sym count) ∙ (bytes_eq-Decides line line).1 refl) few c.close.ensures.more;
    }

pub returns-in_err-rest-clause-none : goal.returns-in_err-rest-clause-none
returns-in_err-rest-clause-none c =
    let same = ap (λ (p : WordPlay). record { play = p; place = c.self.inside.place; claims = c.self.inside.claims; claimed = c.self.inside.claimed; has_free = c.self.inside.has_free }) c.in_default.ensures.kept ∙ c.self.view_is in
    rw c.from_residual.ensures
    (record {
      assignment = subst (λ (q : WordReader). NoAssignment (widths_of is_input q.play.items) q.play.inputs_given c.args.text.now) c.self.view_is c.in_default.ensures.none;
      opening = λ rest is.
          let next = ap (λ (q : WordReader). suc q.play.frames) same in
          c.in_err-rest.ensures.line rest (is ∙ sym (ap (λ (n : ℕ). (64 ∷ decimal n) ++ 10 ∷ rest) next));
    })
