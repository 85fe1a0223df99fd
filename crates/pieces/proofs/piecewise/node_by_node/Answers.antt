use Rattle.std.proofs.Common.{ℕ, ◌<◌, ◌≤◌, List, [], ◌∷◌, ◌++◌, length, get_or, take, take_all, sym, ap, subst, subst₂, ◌∙◌, arith}
use Rattle.pieces.specs.declared.node.Node.{Node}
use Rattle.pieces.specs.Nodes.{word_of, bits_in, MakesWord}
use Rattle.pieces.specs.Cuts.{widths, IsCut}
use Rattle.pieces.specs.Piecewise.{piece_value}
use Rattle.pieces.proofs.NodeLemmas.{extends_same, extends_twice, node_kept}
use Rattle.pieces.proofs.ListLemmas.{words_alike, same_length, same_at, nodes_at, taken}
use Rattle.pieces.proofs.CutLemmas.{widths_more}
use Rattle.pieces.proofs.PiecewiseLemmas.{word_none, each_kept, node_step}
use Rattle.pieces.proofs.piecewise.node_by_node.Goals as goal

pub loop-i-init : goal.loop-i-init
loop-i-init c =
    record {
      extends = extends_same c.args.maker.now;
      word = word_none c.args.maker.now c.args.by c.new-out.result.items c.requires.by c.new-out.ensures.items;
      alike = ap widths c.new-out.ensures.items;
    }

pub bounds-b-i : goal.bounds-b-i
bounds-b-i c = subst (λ (n : ℕ). c.loop-i.i < n) (same_length c.args.a.now c.args.b.now (words_alike 64 c.args.a.now c.args.b.now (omega arith) c.requires.a.cut c.requires.b.cut c.requires.same)) c.loop-i-test.true

pub piece-requires-clause-by : goal.piece-requires-clause-by
piece-requires-clause-by c = each_kept c.args.maker.now c.loop-i.maker c.args.by c.loop-i.invariant.extends c.requires.by

pub piece-requires-clause-a : goal.piece-requires-clause-a
piece-requires-clause-a c = node_kept c.args.maker.now c.loop-i.maker _ c.loop-i.invariant.extends (nodes_at c.args.maker.now c.args.a.now c.loop-i.i _ c.loop-i-test.true c.requires.a.nodes)

pub piece-requires-clause-b : goal.piece-requires-clause-b
piece-requires-clause-b c =
    let alike = words_alike 64 c.args.a.now c.args.b.now (omega arith) c.requires.a.cut c.requires.b.cut c.requires.same in
    node_kept c.args.maker.now c.loop-i.maker _ c.loop-i.invariant.extends
    (nodes_at c.args.maker.now c.args.b.now c.loop-i.i _ (subst (λ (n : ℕ). c.loop-i.i < n) (same_length c.args.a.now c.args.b.now alike) c.loop-i-test.true) c.requires.b.nodes)

pub piece-requires-clause-same : goal.piece-requires-clause-same
piece-requires-clause-same c = same_at c.args.a.now c.args.b.now c.loop-i.i _ (words_alike 64 c.args.a.now c.args.b.now (omega arith) c.requires.a.cut c.requires.b.cut c.requires.same)

pub loop-i-preserved : goal.loop-i-preserved
loop-i-preserved c =
    let alike = words_alike 64 c.args.a.now c.args.b.now (omega arith) c.requires.a.cut c.requires.b.cut c.requires.same in
    record {
      extends = extends_twice c.args.maker.now c.loop-i.maker c.piece.new.maker c.loop-i.invariant.extends c.in_ok-node.ensures.extends;
      word = node_step c.args.maker.now c.loop-i.maker c.piece.new.maker c.args.by c.args.a.now c.args.b.now c.loop-i.out.items c.keep.new.list.items c.loop-i.i _ _ c.in_ok-node.node c.requires.by c.requires.a.nodes c.requires.b.nodes alike
          c.loop-i-test.true c.loop-i.invariant.extends c.in_ok-node.ensures.extends c.loop-i.invariant.word c.in_ok-node.ensures.node c.in_ok-keep.ensures.ok;
      alike = ap widths c.in_ok-keep.ensures.ok ∙ widths_more c.loop-i.out.items c.in_ok-node.node
          ∙ ap (λ (l : List ℕ). l ++ c.in_ok-node.node.width ∷ []) c.loop-i.invariant.alike ∙ ap (λ (n : ℕ). widths (take c.loop-i.i c.args.a.now) ++ n ∷ []) c.in_ok-node.ensures.node.wide
          ∙ sym (ap widths (taken c.args.a.now c.loop-i.i _ c.loop-i-test.true) ∙ widths_more (take c.loop-i.i c.args.a.now) (get_or c.args.a.now c.loop-i.i _));
    }

pub returns-clause-word : goal.returns-clause-word
returns-clause-word c =
    let alike = words_alike 64 c.args.a.now c.args.b.now (omega arith) c.requires.a.cut c.requires.b.cut c.requires.same in
    let all_a : length c.args.a.now ≤ c.loop-i.i = omega (arith, c.loop-i-test.false) in
    let all_b : length c.args.b.now ≤ c.loop-i.i = omega (arith, c.loop-i-test.false, same_length c.args.a.now c.args.b.now alike) in
    subst₂ (λ (k l : List Node). MakesWord c.loop-i.maker (bits_in k) (λ g. piece_value g c.args.by (bits_in k) (word_of g k) (word_of g l)) c.loop-i.out.items) (take_all c.loop-i.i c.args.a.now all_a) (take_all c.loop-i.i c.args.b.now all_b)
    c.loop-i.invariant.word

pub returns-clause-cut : goal.returns-clause-cut
returns-clause-cut c =
    let all_a : length c.args.a.now ≤ c.loop-i.i = omega (arith, c.loop-i-test.false) in
    subst (IsCut 64) (sym (c.loop-i.invariant.alike ∙ ap widths (take_all c.loop-i.i c.args.a.now all_a))) c.requires.a.cut
