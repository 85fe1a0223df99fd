use Rattle.std.proofs.Common.{◌≡◌, ℕ, suc, ◌&&◌, Bool, false, [], length, decimal, refl, sym, ap, ◌∙◌, arith}
use Rattle.witness.specs.Admits.{begins_part, opens_frame, opens_states}
use Rattle.witness.specs.WordStands.{WordReader}
use Rattle.witness.proofs.WordReaderLemmas.{frames_are, next_frame, next_states, the_end, frame_refused, input_more, not_opened}
use Rattle.witness.proofs.word_reader.WordReader.admit_frame.Goals as goal

pub returns-then-is_numbered-clause-line : goal.returns-then-is_numbered-clause-line
returns-then-is_numbered-clause-line c items r reads there few =
    let count : c.saturating_add-next.result ≡ suc (length r.closed) = c.saturating_add-next.ensures ∙ omega (arith, c.frames.ensures, frames_are items r c.args.line.now _ _ c.self.view_is reads, few) in
    next_frame items r c.args.line.now _ _ c.self.view_is reads c.close.new.self there (ap (λ (n : ℕ). opens_frame n c.args.line.now) (sym count) ∙ (sym (c.is_numbered.ensures (omega (arith, count, few))) ∙ c.if-is_numbered.true)) few c.close.ensures.more

pub returns-then-begins_states-clause-line : goal.returns-then-begins_states-clause-line
returns-then-begins_states-clause-line c items r reads there few =
    let count : c.saturating_add-next.result ≡ suc (length r.closed) = c.saturating_add-next.ensures ∙ omega (arith, c.frames.ensures, frames_are items r c.args.line.now _ _ c.self.view_is reads, few) in
    next_states items r c.args.line.now _ _ c.self.view_is reads c.close-then-begins_states.new.self there (ap (λ (n : ℕ). opens_frame n c.args.line.now) (sym count) ∙ (sym (c.is_numbered.ensures (omega (arith, count, few))) ∙ c.if-is_numbered.false)) (ap (λ (n : ℕ). opens_states n c.args.line.now && c.self.inside.has_free) (sym count) ∙ (ap (λ (w : WordReader). opens_states c.saturating_add-next.result c.args.line.now && w.has_free) c.self.view_is ∙ (sym (c.begins_states.ensures (omega (arith, count, few))) ∙ c.if-begins_states.true))) few c.close-then-begins_states.ensures.more

pub returns-then-is_word-clause-line : goal.returns-then-is_word-clause-line
returns-then-is_word-clause-line c items r reads there few =
    let count : c.saturating_add-next.result ≡ suc (length r.closed) = c.saturating_add-next.ensures ∙ omega (arith, c.frames.ensures, frames_are items r c.args.line.now _ _ c.self.view_is reads, few) in
    the_end items r c.args.line.now _ _ c.self.view_is reads c.close-then-is_word.new.self there (ap (λ (n : ℕ). opens_frame n c.args.line.now) (sym count) ∙ (sym (c.is_numbered.ensures (omega (arith, count, few))) ∙ c.if-is_numbered.false)) (ap (λ (n : ℕ). opens_states n c.args.line.now && c.self.inside.has_free) (sym count) ∙ (ap (λ (w : WordReader). opens_states c.saturating_add-next.result c.args.line.now && w.has_free) c.self.view_is ∙ (sym (c.begins_states.ensures (omega (arith, count, few))) ∙ c.if-begins_states.false))) (sym (c.is_word.ensures) ∙ c.if-is_word.true) few c.close-then-is_word.ensures.more

pub returns-then-not-begins_part-clause-line : goal.returns-then-not-begins_part-clause-line
returns-then-not-begins_part-clause-line c items r reads there few =
    let plain : begins_part c.args.line.now ≡ false = sym (c.begins_part.ensures) ∙ c.if-not-begins_part.true in
    let no_frame : opens_frame (suc (length r.closed)) c.args.line.now ≡ false = not_opened 64 (decimal (suc (length r.closed))) c.args.line.now refl plain in
    let no_states : (opens_states (suc (length r.closed)) c.args.line.now && c.self.inside.has_free) ≡ false = ap (λ (b : Bool). b && c.self.inside.has_free) (not_opened 35 (decimal (suc (length r.closed))) c.args.line.now refl plain) in
    input_more items r c.args.line.now _ _ c.self.view_is reads c.assign_input.new.self c.assign_input.result there no_frame no_states (not_opened 46 [] c.args.line.now refl plain) plain c.assign_input.ensures.line

pub returns-clause-line : goal.returns-clause-line
returns-clause-line c items r reads there few =
    let count : c.saturating_add-next.result ≡ suc (length r.closed) = c.saturating_add-next.ensures ∙ omega (arith, c.frames.ensures, frames_are items r c.args.line.now _ _ c.self.view_is reads, few) in
    frame_refused items r c.args.line.now _ _ c.self.view_is reads there (ap (λ (n : ℕ). opens_frame n c.args.line.now) (sym count) ∙ (sym (c.is_numbered.ensures (omega (arith, count, few))) ∙ c.if-is_numbered.false)) (ap (λ (n : ℕ). opens_states n c.args.line.now && c.self.inside.has_free) (sym count) ∙ (ap (λ (w : WordReader). opens_states c.saturating_add-next.result c.args.line.now && w.has_free) c.self.view_is ∙ (sym (c.begins_states.ensures (omega (arith, count, few))) ∙ c.if-begins_states.false))) (sym (c.is_word.ensures) ∙ c.if-is_word.false) (sym (c.begins_part.ensures) ∙ c.if-not-begins_part.false)
