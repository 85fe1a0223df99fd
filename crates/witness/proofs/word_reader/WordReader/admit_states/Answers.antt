use Rattle.std.proofs.Common.{◌≡◌, ℕ, length, sym, ap, ◌∙◌, arith}
use Rattle.witness.specs.Admits.{opens_frame}
use Rattle.witness.proofs.WordReaderLemmas.{frames_are, states_done, states_refused, state_refused, state_more}
use Rattle.witness.proofs.word_reader.WordReader.admit_states.Goals as goal

pub returns-then-is_numbered-clause-line : goal.returns-then-is_numbered-clause-line
returns-then-is_numbered-clause-line c items r reads there few =
    let count : c.frames.result ≡ length r.closed = c.frames.ensures ∙ frames_are items r c.args.line.now _ _ c.self.view_is reads in
    states_done items r c.args.line.now _ _ c.self.view_is reads there (ap (λ (n : ℕ). opens_frame n c.args.line.now) (sym count) ∙ (sym (c.is_numbered.ensures (omega (arith, count, few))) ∙ c.if-is_numbered.true))

pub returns-then-begins_part-clause-line : goal.returns-then-begins_part-clause-line
returns-then-begins_part-clause-line c items r reads there few =
    let count : c.frames.result ≡ length r.closed = c.frames.ensures ∙ frames_are items r c.args.line.now _ _ c.self.view_is reads in
    states_refused items r c.args.line.now _ _ c.self.view_is reads there (ap (λ (n : ℕ). opens_frame n c.args.line.now) (sym count) ∙ (sym (c.is_numbered.ensures (omega (arith, count, few))) ∙ c.if-is_numbered.false)) (sym (c.begins_part.ensures) ∙ c.if-begins_part.true)

pub returns-then-not-may_assign-clause-line : goal.returns-then-not-may_assign-clause-line
returns-then-not-may_assign-clause-line c items r reads there few =
    let count : c.frames.result ≡ length r.closed = c.frames.ensures ∙ frames_are items r c.args.line.now _ _ c.self.view_is reads in
    state_refused items r c.args.line.now _ _ c.self.view_is reads there (ap (λ (n : ℕ). opens_frame n c.args.line.now) (sym count) ∙ (sym (c.is_numbered.ensures (omega (arith, count, few))) ∙ c.if-is_numbered.false)) (sym (c.begins_part.ensures) ∙ c.if-begins_part.false)
    (λ first. sym c.if-not-may_assign.true ∙ c.may_assign.ensures.first first, λ later. sym c.if-not-may_assign.true ∙ c.may_assign.ensures.later later)

pub returns-clause-line : goal.returns-clause-line
returns-clause-line c items r reads there few =
    let count : c.frames.result ≡ length r.closed = c.frames.ensures ∙ frames_are items r c.args.line.now _ _ c.self.view_is reads in
    state_more items r c.args.line.now _ _ c.self.view_is reads c.assign_state.new.self c.assign_state.result there (ap (λ (n : ℕ). opens_frame n c.args.line.now) (sym count) ∙ (sym (c.is_numbered.ensures (omega (arith, count, few))) ∙ c.if-is_numbered.false)) (sym (c.begins_part.ensures) ∙ c.if-begins_part.false)
    (λ first. sym c.if-not-may_assign.false ∙ c.may_assign.ensures.first first, λ later. sym c.if-not-may_assign.false ∙ c.may_assign.ensures.later later) c.assign_state.ensures.line
