use Rattle.std.proofs.Common.{◌≡◌, ◌≢◌, ◌<◌, ℕ, List, length, get_or, ap, sym, subst, ◌∙◌, arith}
use Rattle.std.proofs.lemmas.List.{with_items_is}
use Rattle.std.specs.Vec.{with_items}
use Rattle.runs.specs.Nodes.{words_at}
use Rattle.runs.proofs.InvariantLemmas.{run_same}
use Rattle.runs.proofs.StartLemmas.{NewLists, Starts, start_inside, start_many, start_once, starts}
use Rattle.runs.proofs.word_run.WordRun.resolved.Goals as goal
use Rattle.runs.proofs.word_run.WordRun.resolved.Goals.{After-deref_mut, After-put_words}

-- the lists of a new run
new_lists : (c : After-deref_mut)
    → NewLists c.args.model.now c.in_ok-nodes.nodes.items c.in_ok-slots.slots.items c.in_ok-named.named.states.items c.in_ok-named.named.inputs.items c.in_ok-named.named.nexts.items c.in_ok-named.named.bads.items c.in_ok-named.named.constraints.items
    c.in_ok-values.values.items c.in_ok-next_values.next_values.items
new_lists c =
    record {
      well_formed = c.requires.well_formed;
      are_nodes = c.in_ok-nodes.ensures;
      are_slots = c.in_ok-slots.ensures;
      are_states = c.in_ok-named.ensures.are_states;
      are_inputs = c.in_ok-named.ensures.are_inputs;
      are_nexts = c.in_ok-named.ensures.are_nexts;
      are_bads = c.in_ok-named.ensures.are_bads;
      are_constraints = c.in_ok-named.ensures.are_constraints;
      stand = c.in_ok-values.ensures;
      are_first = c.in_ok-next_values.ensures;
    }

pub put_words-requires-clause-inside : goal.put_words-requires-clause-inside
put_words-requires-clause-inside c = rw (c.deref-4.ensures.value, c.deref_mut.ensures.value) (start_inside _ _ _ _ _ _ _ _ _ _ (new_lists c))

pub put_words-requires-clause-as_many : goal.put_words-requires-clause-as_many
put_words-requires-clause-as_many c = rw (c.deref-3.ensures.value, c.deref-4.ensures.value) (start_many _ _ _ _ _ _ _ _ _ _ (new_lists c))

pub put_words-requires-clause-once : goal.put_words-requires-clause-once
put_words-requires-clause-once c = rw (c.deref-4.ensures.value) (start_once _ _ _ _ _ _ _ _ _ _ (new_lists c))

begun : (c : After-put_words) → c.deref_mut.result.now ≡ c.in_ok-values.values.items
    → NewLists c.args.model.now c.in_ok-nodes.nodes.items c.in_ok-slots.slots.items c.in_ok-named.named.states.items c.in_ok-named.named.inputs.items c.in_ok-named.named.nexts.items c.in_ok-named.named.bads.items c.in_ok-named.named.constraints.items
    c.in_ok-values.values.items c.in_ok-next_values.next_values.items
    → Starts c.args.model.now c.in_ok-nodes.nodes.items c.in_ok-slots.slots.items c.in_ok-named.named.states.items c.in_ok-named.named.inputs.items c.in_ok-named.named.nexts.items c.in_ok-named.named.bads.items c.in_ok-named.named.constraints.items
    (with_items c.in_ok-values.values c.put_words.new.values).items c.in_ok-next_values.next_values.items
begun c same m =
    let put = with_items_is c.in_ok-values.values c.put_words.new.values (omega arith) in
    rw put
    (starts _ _ _ _ _ _ _ _ _ _ m c.put_words.new.values (ap (words_at c.put_words.new.values) (sym c.deref-4.ensures.value) ∙ c.put_words.ensures.put ∙ c.deref-3.ensures.value)
    (λ p apart. c.put_words.ensures.others p (subst (λ (l : List ℕ). (j : ℕ) → j < length l → get_or l j 0 ≢ p) (sym c.deref-4.ensures.value) apart) ∙ ap (λ (l : List ℕ). get_or l p 0) same)
    (c.put_words.ensures.as_many ∙ ap length same))

pub invariant_of-result : goal.invariant_of-result
invariant_of-result c =
    let made = (goal.at.invariant_of-result c).After-deref_mut in
    rw (c.new.ensures, c.new-2.ensures, c.new-3.ensures, c.new-4.ensures, c.new-5.ensures, c.new-6.ensures, c.new-7.ensures, c.new-8.ensures, c.new-9.ensures) (begun (goal.at.invariant_of-result c).After-put_words made.deref_mut.ensures.value (new_lists made)).keeps

pub returns : goal.returns
returns c =
    let made = (goal.at.returns c).After-deref_mut in
    let begin = begun (goal.at.returns c).After-put_words made.deref_mut.ensures.value (new_lists made) in
    rw (c.new-3.ensures, c.new-4.ensures, c.new-8.ensures) (run_same _ _ _ _ _ _ _ _ begin.first_words begin.no_inputs c.requires.none)
