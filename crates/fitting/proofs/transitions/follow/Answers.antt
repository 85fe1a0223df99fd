use Rattle.std.proofs.Common.{◌≡◌, ℕ, ◌<◌, ◌≤◌, length, take, take_all, get_or, true, None, subst, subst₂, arith}
use Rattle.btor2.specs.Items.{names_state, next_value}
use Rattle.pieces.specs.declared.node.Node.{Node}
use Rattle.pieces.proofs.ListLemmas.{words_alike, same_length, same_at, nodes_at}
use Rattle.fitting.specs.Steps.{AddsNexts}
use Rattle.fitting.proofs.LineLemmas.{all_nth, apart_at, nodes_later, states_later, next_of_last, follow_next}
use Rattle.fitting.proofs.transitions.follow.Goals as goal

pub bounds-value-k : goal.bounds-value-k
bounds-value-k c =
    subst (λ (n : ℕ). c.loop-k.k < n) (same_length c.args.state.now c.args.value.now (words_alike 64 c.args.state.now c.args.value.now (omega arith) c.requires.state.cut c.requires.value.cut c.requires.same)) c.loop-k-test.true

pub next-requires-clause-state : goal.next-requires-clause-state
next-requires-clause-state c =
    nodes_at c.loop-k.maker c.args.state.now c.loop-k.k _ c.loop-k-test.true (nodes_later c.args.maker.now c.loop-k.maker c.loop-k.invariant.adds.more c.args.state.now c.loop-k.invariant.adds.is c.requires.state.nodes)

pub next-requires-clause-value : goal.next-requires-clause-value
next-requires-clause-value c =
    nodes_at c.loop-k.maker c.args.value.now c.loop-k.k _
    (subst (λ (n : ℕ). c.loop-k.k < n) (same_length c.args.state.now c.args.value.now (words_alike 64 c.args.state.now c.args.value.now (omega arith) c.requires.state.cut c.requires.value.cut c.requires.same)) c.loop-k-test.true)
    (nodes_later c.args.maker.now c.loop-k.maker c.loop-k.invariant.adds.more c.args.value.now c.loop-k.invariant.adds.is c.requires.value.nodes)

pub next-requires-clause-same : goal.next-requires-clause-same
next-requires-clause-same c = same_at c.args.state.now c.args.value.now c.loop-k.k _ (words_alike 64 c.args.state.now c.args.value.now (omega arith) c.requires.state.cut c.requires.value.cut c.requires.same)

pub next-requires-clause-is_state : goal.next-requires-clause-is_state
next-requires-clause-is_state c =
    all_nth (λ (p : Node). names_state c.loop-k.maker p.id ≡ true) c.args.state.now c.loop-k.k _ c.loop-k-test.true
    (states_later c.args.maker.now c.loop-k.maker c.loop-k.invariant.adds.more c.args.state.now c.loop-k.invariant.adds.is c.requires.states)

pub next-requires-clause-first : goal.next-requires-clause-first
next-requires-clause-first c =
    next_of_last c.args.maker.now c.loop-k.maker (take c.loop-k.k c.args.state.now) (take c.loop-k.k c.args.value.now) (get_or c.args.state.now c.loop-k.k (record { id = 0; width = 0 })) c.loop-k.invariant.adds
    (apart_at c.args.state.now c.loop-k.k _ c.loop-k-test.true c.requires.distinct) (all_nth (λ (p : Node). next_value c.args.maker.now p.id ≡ None) c.args.state.now c.loop-k.k _ c.loop-k-test.true c.requires.first)

pub loop-k-preserved : goal.loop-k-preserved
loop-k-preserved c =
    let alike = words_alike 64 c.args.state.now c.args.value.now (omega arith) c.requires.state.cut c.requires.value.cut c.requires.same in
    record {
      within = omega (arith, c.loop-k-test.true);
      adds = follow_next c.args.maker.now c.loop-k.maker c.next.new.self c.args.state.now c.args.value.now c.loop-k.k _ _ _ _ c.loop-k-test.true (subst (λ (n : ℕ). c.loop-k.k < n) (same_length c.args.state.now c.args.value.now alike) c.loop-k-test.true)
          c.requires.distinct c.requires.first c.loop-k.invariant.adds c.in_ok-next.ensures.line;
    }

pub returns-clause-adds : goal.returns-clause-adds
returns-clause-adds c =
    let all_a : length c.args.state.now ≤ c.loop-k.k = omega (arith, c.loop-k-test.false) in
    let all_b : length c.args.value.now ≤ c.loop-k.k = omega (arith, c.loop-k-test.false, same_length c.args.state.now c.args.value.now (words_alike 64 c.args.state.now c.args.value.now (omega arith) c.requires.state.cut c.requires.value.cut c.requires.same)) in
    subst₂ (AddsNexts c.args.maker.now c.loop-k.maker) (take_all c.loop-k.k c.args.state.now all_a) (take_all c.loop-k.k c.args.value.now all_b) c.loop-k.invariant.adds
