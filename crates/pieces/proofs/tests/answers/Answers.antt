use Rattle.std.proofs.Common.{ℕ, ◌<◌, ◌≤◌, List, length, take_all, sym, ap, subst, subst₂, ◌∙◌, arith}
use Rattle.base.specs.declared.operators.Binary.{Binary}
use Rattle.base.specs.Widths.{binary_width, is_of_bits}
use Rattle.base.specs.Operator.{binary_value}
use Rattle.pieces.specs.declared.node.Node.{Node}
use Rattle.pieces.specs.Nodes.{word_of, bits_in, Makes}
use Rattle.pieces.specs.Tests.{test_value}
use Rattle.pieces.proofs.NodeLemmas.{extends_twice, node_kept}
use Rattle.pieces.proofs.ListLemmas.{words_alike, same_length, same_at, nodes_at, some_nodes}
use Rattle.pieces.proofs.TestLemmas.{join_of_words, answer_first, answer_step}
use Rattle.pieces.proofs.tests.answers.Goals as goal

pub bounds-a-0 : goal.bounds-a-0
bounds-a-0 c = (some_nodes c.args.a.now c.requires.a.some)

pub bounds-b-0 : goal.bounds-b-0
bounds-b-0 c = (some_nodes c.args.b.now c.requires.b.some)

pub answer-requires-clause-a : goal.answer-requires-clause-a
answer-requires-clause-a c = nodes_at c.args.maker.now c.args.a.now 0 _ (some_nodes c.args.a.now c.requires.a.some) c.requires.a.nodes

pub answer-requires-clause-b : goal.answer-requires-clause-b
answer-requires-clause-b c = nodes_at c.args.maker.now c.args.b.now 0 _ (some_nodes c.args.b.now c.requires.b.some) c.requires.b.nodes

pub answer-requires-clause-same : goal.answer-requires-clause-same
answer-requires-clause-same c = same_at c.args.a.now c.args.b.now 0 _ (words_alike 64 c.args.a.now c.args.b.now (omega arith) c.requires.a.cut c.requires.b.cut c.requires.same)

pub loop-i-init : goal.loop-i-init
loop-i-init c = record {
  least = omega arith;
  extends = c.in_ok-result.ensures.extends;
  word = answer_first c.args.maker.now c.answer.new.maker c.args.by c.args.a.now c.args.b.now _ _ c.in_ok-result.result (some_nodes c.args.a.now c.requires.a.some) (words_alike 64 c.args.a.now c.args.b.now (omega arith) c.requires.a.cut c.requires.b.cut c.requires.same) c.in_ok-result.ensures.node;
}

pub bounds-b-i : goal.bounds-b-i
bounds-b-i c = (subst (λ (n : ℕ). c.loop-i.i < n) (same_length c.args.a.now c.args.b.now (words_alike 64 c.args.a.now c.args.b.now (omega arith) c.requires.a.cut c.requires.b.cut c.requires.same)) c.loop-i-test.true)

pub answer-requires-in-loop-i-clause-a : goal.answer-requires-in-loop-i-clause-a
answer-requires-in-loop-i-clause-a c = node_kept c.args.maker.now c.loop-i.maker _ c.loop-i.invariant.extends (nodes_at c.args.maker.now c.args.a.now c.loop-i.i _ c.loop-i-test.true c.requires.a.nodes)

pub answer-requires-in-loop-i-clause-b : goal.answer-requires-in-loop-i-clause-b
answer-requires-in-loop-i-clause-b c = node_kept c.args.maker.now c.loop-i.maker _ c.loop-i.invariant.extends (nodes_at c.args.maker.now c.args.b.now c.loop-i.i _ (subst (λ (n : ℕ). c.loop-i.i < n) (same_length c.args.a.now c.args.b.now (words_alike 64 c.args.a.now c.args.b.now (omega arith) c.requires.a.cut c.requires.b.cut c.requires.same)) c.loop-i-test.true) c.requires.b.nodes)

pub answer-requires-in-loop-i-clause-same : goal.answer-requires-in-loop-i-clause-same
answer-requires-in-loop-i-clause-same c = same_at c.args.a.now c.args.b.now c.loop-i.i _ (words_alike 64 c.args.a.now c.args.b.now (omega arith) c.requires.a.cut c.requires.b.cut c.requires.same)

pub binary-requires-clause-a : goal.binary-requires-clause-a
binary-requires-clause-a c = node_kept c.loop-i.maker c.answer-in-loop-i.new.maker c.loop-i.result c.in_ok-next.ensures.extends c.loop-i.invariant.word.node

pub binary-requires-clause-same : goal.binary-requires-clause-same
binary-requires-clause-same c = c.loop-i.invariant.word.wide ∙ sym c.in_ok-next.ensures.node.wide

pub binary-requires-clause-bits : goal.binary-requires-clause-bits
binary-requires-clause-bits c = ap is_of_bits c.join.ensures ∙ join_of_words c.args.by

pub loop-i-preserved : goal.loop-i-preserved
loop-i-preserved c = let e12 = extends_twice c.loop-i.maker c.answer-in-loop-i.new.maker c.binary.new.self c.in_ok-next.ensures.extends c.in_ok-joined.ensures.extends in
    let joined = subst (λ (op : Binary). Makes c.binary.new.self (binary_width op c.loop-i.result.width) (λ g. binary_value op c.loop-i.result.width (g c.loop-i.result.id) (g c.in_ok-next.next.id)) c.in_ok-joined.joined) c.join.ensures c.in_ok-joined.ensures.node in
    record {
      least = omega arith;
      extends = extends_twice c.args.maker.now c.loop-i.maker c.binary.new.self c.loop-i.invariant.extends e12;
      word = answer_step c.args.maker.now c.loop-i.maker c.answer-in-loop-i.new.maker c.binary.new.self c.args.by c.args.a.now c.args.b.now c.loop-i.i _ _ c.loop-i.result c.in_ok-next.next c.in_ok-joined.joined c.requires.a.nodes c.requires.b.nodes (words_alike 64 c.args.a.now c.args.b.now (omega arith) c.requires.a.cut c.requires.b.cut c.requires.same) c.loop-i-test.true
          c.loop-i.invariant.extends c.in_ok-next.ensures.extends c.in_ok-joined.ensures.extends c.loop-i.invariant.word c.in_ok-next.ensures.node joined;
    }

pub returns-clause-node : goal.returns-clause-node
returns-clause-node c = let all_a : length c.args.a.now ≤ c.loop-i.i = omega (arith, c.loop-i-test.false) in
    let all_b : length c.args.b.now ≤ c.loop-i.i = omega (arith, c.loop-i-test.false, same_length c.args.a.now c.args.b.now (words_alike 64 c.args.a.now c.args.b.now (omega arith) c.requires.a.cut c.requires.b.cut c.requires.same)) in
    subst₂ (λ (k l : List Node). Makes c.loop-i.maker 1 (λ g. test_value c.args.by (bits_in k) (word_of g k) (word_of g l)) c.loop-i.result) (take_all c.loop-i.i c.args.a.now all_a) (take_all c.loop-i.i c.args.b.now all_b) c.loop-i.invariant.word
