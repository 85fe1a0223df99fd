use Rattle.std.proofs.Common.{◌≡◌, ℕ, ◌<◌, ◌≤◌, length, take, take_all, get_or, true, is_some, None, subst, subst₂, arith}
use Rattle.btor2.specs.Items.{constant_of, names_state, init_value}
use Rattle.pieces.specs.declared.node.Node.{Node}
use Rattle.pieces.proofs.ListLemmas.{words_alike, same_length, same_at, nodes_at}
use Rattle.fitting.specs.Steps.{AddsInits}
use Rattle.fitting.proofs.LineLemmas.{all_nth, apart_at, constants_later, nodes_later, states_later, init_of_last, begin_next}
use Rattle.fitting.proofs.transitions.begin.Goals as goal

pub bounds-value-k : goal.bounds-value-k
bounds-value-k c =
    subst (λ (n : ℕ). c.loop-k.k < n) (same_length c.args.state.now c.args.value.now (words_alike 64 c.args.state.now c.args.value.now (omega arith) c.requires.state.cut c.requires.value.cut c.requires.same)) c.loop-k-test.true

pub init-requires-clause-state : goal.init-requires-clause-state
init-requires-clause-state c =
    nodes_at c.loop-k.maker c.args.state.now c.loop-k.k _ c.loop-k-test.true (nodes_later c.args.maker.now c.loop-k.maker c.loop-k.invariant.adds.more c.args.state.now c.loop-k.invariant.adds.is c.requires.state.nodes)

pub init-requires-clause-value : goal.init-requires-clause-value
init-requires-clause-value c =
    nodes_at c.loop-k.maker c.args.value.now c.loop-k.k _
    (subst (λ (n : ℕ). c.loop-k.k < n) (same_length c.args.state.now c.args.value.now (words_alike 64 c.args.state.now c.args.value.now (omega arith) c.requires.state.cut c.requires.value.cut c.requires.same)) c.loop-k-test.true)
    (nodes_later c.args.maker.now c.loop-k.maker c.loop-k.invariant.adds.more c.args.value.now c.loop-k.invariant.adds.is c.requires.value.nodes)

pub init-requires-clause-same : goal.init-requires-clause-same
init-requires-clause-same c = same_at c.args.state.now c.args.value.now c.loop-k.k _ (words_alike 64 c.args.state.now c.args.value.now (omega arith) c.requires.state.cut c.requires.value.cut c.requires.same)

pub init-requires-clause-is_state : goal.init-requires-clause-is_state
init-requires-clause-is_state c =
    all_nth (λ (p : Node). names_state c.loop-k.maker p.id ≡ true) c.args.state.now c.loop-k.k _ c.loop-k-test.true
    (states_later c.args.maker.now c.loop-k.maker c.loop-k.invariant.adds.more c.args.state.now c.loop-k.invariant.adds.is c.requires.states)

pub init-requires-clause-constant : goal.init-requires-clause-constant
init-requires-clause-constant c =
    all_nth (λ (p : Node). is_some (constant_of c.loop-k.maker p.id) ≡ true) c.args.value.now c.loop-k.k _
    (subst (λ (n : ℕ). c.loop-k.k < n) (same_length c.args.state.now c.args.value.now (words_alike 64 c.args.state.now c.args.value.now (omega arith) c.requires.state.cut c.requires.value.cut c.requires.same)) c.loop-k-test.true)
    (constants_later c.args.maker.now c.loop-k.maker c.loop-k.invariant.adds.more c.args.value.now c.loop-k.invariant.adds.is c.requires.constants)

pub init-requires-clause-first : goal.init-requires-clause-first
init-requires-clause-first c =
    init_of_last c.args.maker.now c.loop-k.maker (take c.loop-k.k c.args.state.now) (take c.loop-k.k c.args.value.now) (get_or c.args.state.now c.loop-k.k (record { id = 0; width = 0 })) c.loop-k.invariant.adds
    (apart_at c.args.state.now c.loop-k.k _ c.loop-k-test.true c.requires.distinct) (all_nth (λ (p : Node). init_value c.args.maker.now p.id ≡ None) c.args.state.now c.loop-k.k _ c.loop-k-test.true c.requires.first)

pub loop-k-preserved : goal.loop-k-preserved
loop-k-preserved c =
    let alike = words_alike 64 c.args.state.now c.args.value.now (omega arith) c.requires.state.cut c.requires.value.cut c.requires.same in
    record {
      within = omega (arith, c.loop-k-test.true);
      adds = begin_next c.args.maker.now c.loop-k.maker c.init.new.self c.args.state.now c.args.value.now c.loop-k.k _ _ _ _ c.loop-k-test.true (subst (λ (n : ℕ). c.loop-k.k < n) (same_length c.args.state.now c.args.value.now alike) c.loop-k-test.true)
          alike c.requires.constants c.requires.distinct c.requires.first c.loop-k.invariant.adds c.in_ok-init.ensures.line;
    }

pub returns-clause-adds : goal.returns-clause-adds
returns-clause-adds c =
    let all_a : length c.args.state.now ≤ c.loop-k.k = omega (arith, c.loop-k-test.false) in
    let all_b : length c.args.value.now ≤ c.loop-k.k = omega (arith, c.loop-k-test.false, same_length c.args.state.now c.args.value.now (words_alike 64 c.args.state.now c.args.value.now (omega arith) c.requires.state.cut c.requires.value.cut c.requires.same)) in
    subst₂ (AddsInits c.args.maker.now c.loop-k.maker) (take_all c.loop-k.k c.args.state.now all_a) (take_all c.loop-k.k c.args.value.now all_b) c.loop-k.invariant.adds
