use Rattle.std.proofs.Common.{◌≡◌, ◌≢◌, ◌<◌, ℕ, true, List, Option, length, map, get_or, ap, ap₂, sym, refl, subst, ◌∙◌, arith}
use Rattle.base.proofs.FixedLemmas.{refilled_is}
use Rattle.base.specs.Fixed.{refilled}
use Rattle.btor2.specs.Items.{is_state}
use Rattle.btor2.specs.Trace.{Frame, next_state}
use Rattle.runs.specs.Frames.{ids_of}
use Rattle.base.specs.Steps.{more_steps}
use Rattle.runs.specs.Run.{Run, IsNow}
use Rattle.runs.specs.Nodes.{words_at, word_where}
use Rattle.runs.proofs.InvariantLemmas.{run_same}
use Rattle.runs.proofs.AdvanceLemmas.{AfterAdvance, nexts_inside, nexts_count, states_inside, states_differ, inputs_inside, advance_keeps}
use Rattle.runs.proofs.word_run.WordRun.advance.Goals as goal
use Rattle.runs.proofs.word_run.WordRun.advance.Goals.{After-clear_words}

pub take_words-requires-clause-inside : goal.take_words-requires-clause-inside
take_words-requires-clause-inside c = rw (c.deref-2.ensures, c.deref.ensures) (nexts_inside _ _ _ _ _ _ _ _ _ _ _ c.self.invariant)

pub put_words-requires-clause-inside : goal.put_words-requires-clause-inside
put_words-requires-clause-inside c = rw (c.deref-4.ensures, c.deref_mut-2.ensures.value) (states_inside _ _ _ _ _ _ _ _ _ _ _ c.self.invariant)

pub put_words-requires-clause-once : goal.put_words-requires-clause-once
put_words-requires-clause-once c = rw (c.deref-4.ensures) (states_differ _ _ _ _ _ _ _ _ _ _ _ c.self.invariant)

pub clear_words-requires : goal.clear_words-requires
clear_words-requires c =
    let inside = inputs_inside _ _ _ _ _ _ _ _ _ _ _ c.self.invariant in
    let put = refilled_is c.self.inside.values c.put_words.new.values (omega (arith, ap length c.deref_mut-2.ensures.value)) in
    let as_many : length c.deref_mut-3.result.now ≡ length c.self.inside.values = omega (arith, ap length c.deref_mut-2.ensures.value, ap length c.deref_mut-3.ensures.value, ap length put) in
    record { inside = rw (c.deref-5.ensures, as_many) inside }

-- the words taken, and the now-values at the end
taken_is : (c : After-clear_words) → (refilled c.self.inside.next_values c.take_words.new.taken) ≡ c.take_words.new.taken
taken_is c = refilled_is c.self.inside.next_values c.take_words.new.taken (omega (arith, ap length c.deref_mut.ensures.value))

cleared_is : (c : After-clear_words) → (refilled (refilled c.self.inside.values c.put_words.new.values) c.clear_words.new.values) ≡ c.clear_words.new.values
cleared_is c = refilled_is (refilled c.self.inside.values c.put_words.new.values) c.clear_words.new.values (omega (arith, ap length c.deref_mut-3.ensures.value))

after : (c : After-clear_words) → c.self.inside.settled ≡ true
    → AfterAdvance c.self.inside.model.now c.self.inside.nodes c.self.inside.slots c.self.inside.states c.self.inside.inputs c.self.inside.nexts c.self.inside.bads c.self.inside.constraints
    c.self.inside.values (refilled c.self.inside.next_values c.take_words.new.taken) (refilled (refilled c.self.inside.values c.put_words.new.values) c.clear_words.new.values)
after c done =
    let put = refilled_is c.self.inside.values c.put_words.new.values (omega (arith, ap length c.deref_mut-2.ensures.value)) in
    rw (taken_is c, cleared_is c)
    (advance_keeps _ _ _ _ _ _ _ _ _ _ _ c.self.invariant done c.take_words.new.taken c.put_words.new.values c.clear_words.new.values
    (c.take_words.ensures.taken ∙ ap₂ (λ (vs : List ℕ) (ps : List (Option ℕ)). map (word_where vs) ps) c.deref.ensures c.deref-2.ensures)
    (ap (words_at c.put_words.new.values) (sym c.deref-4.ensures) ∙ c.put_words.ensures.put ∙ c.deref-3.ensures ∙ taken_is c)
    (λ p h. c.put_words.ensures.others p (subst (λ (l : List ℕ). (j : ℕ) → j < length l → get_or l j 0 ≢ p) (sym c.deref-4.ensures) h) ∙ ap (λ (l : List ℕ). get_or l p 0) c.deref_mut-2.ensures.value)
    (subst (λ (l : List ℕ). (j : ℕ) → j < length l → get_or c.clear_words.new.values (get_or l j 0) 0 ≡ 0) c.deref-5.ensures c.clear_words.ensures.cleared)
    (λ p h. c.clear_words.ensures.others p (subst (λ (l : List ℕ). (j : ℕ) → j < length l → get_or l j 0 ≢ p) (sym c.deref-5.ensures) h) ∙ ap (λ (l : List ℕ). get_or l p 0) (c.deref_mut-3.ensures.value ∙ put))
    (omega (arith, ap length c.deref_mut-2.ensures.value, ap length c.deref_mut-3.ensures.value, ap length put)) (omega (arith, ap length c.deref_mut.ensures.value)))

pub invariant_of-self : goal.invariant_of-self
invariant_of-self c = (after (goal.at.invariant_of-self c).After-clear_words (subst (λ (r : Run). r.settled ≡ true) (sym c.self.view_is) c.requires)).keeps

pub returns-clause-states : goal.returns-clause-states
returns-clause-states c =
    let moved = after (goal.at.returns-clause-states c).After-clear_words (subst (λ (r : Run). r.settled ≡ true) (sym c.self.view_is) c.requires) in
    subst (λ (r : Run). (f : Frame) → IsNow r f
    → words_at (refilled (refilled c.self.inside.values c.put_words.new.values) c.clear_words.new.values) c.self.inside.states ≡ map (next_state r.items f) (ids_of is_state r.items)) c.self.view_is moved.next_words

pub returns-clause-others : goal.returns-clause-others
returns-clause-others c =
    let moved = after (goal.at.returns-clause-others c).After-clear_words (subst (λ (r : Run). r.settled ≡ true) (sym c.self.view_is) c.requires) in
    let steps = c.take_words.ensures.steps ∙ ap (λ (n : ℕ). more_steps n c.self.inside.tally) (ap length c.deref-2.ensures ∙ nexts_count _ _ _ _ _ _ _ _ _ _ _ c.self.invariant) in
    rw (← c.self.view_is) (run_same _ _ _ _ _ _ _ _ refl moved.no_inputs steps)
