use Rattle.std.proofs.Common.{◌≡◌, ℕ, ◌-◌, ◌≤◌, subst, arith}
use Rattle.pieces.specs.Nodes.{MakesWord}
use Rattle.pieces.specs.Fills.{filled_word}
use Rattle.pieces.proofs.NodeLemmas.{extends_same, extends_twice}
use Rattle.pieces.proofs.JoinLemmas.{fill_none, fill_more}
use Rattle.pieces.proofs.SumLemmas.{carry_kept}
use Rattle.pieces.proofs.joins.fill.Goals as goal

pub filling-init : goal.filling-init
filling-init c = record {
  within = omega arith;
  extends = extends_same c.args.maker.now;
  word = fill_none c.args.maker.now c.args.by (c.args.width - c.args.width) c.new-out.result.items (omega arith) c.new-out.ensures.items;
}

pub filling-preserved : goal.filling-preserved
filling-preserved c = let few : c.min-taken.result ≤ c.filling.left = omega (arith, c.min-taken.ensures) in
    record {
      within = omega (arith, c.filling.invariant.within);
      extends = extends_twice c.args.maker.now c.filling.maker c.filler.new.maker c.filling.invariant.extends c.in_ok-node.ensures.extends;
      word = fill_more c.filling.maker c.filler.new.maker c.args.by (c.args.width - c.filling.left) c.min-taken.result (c.args.width - (c.filling.left - c.min-taken.result)) c.filling.out.items c.keep.new.list.items c.in_ok-node.node
          (omega (arith, few, c.filling.invariant.within)) c.in_ok-node.ensures.extends c.filling.invariant.word c.in_ok-node.ensures.node c.in_ok-keep.ensures.ok;
    }

pub returns-clause-word : goal.returns-clause-word
returns-clause-word c = let all : c.args.width - c.filling.left ≡ c.args.width = omega (arith, c.filling-test.false) in
    subst (λ (n : ℕ). MakesWord c.filling.maker n (λ g. filled_word g c.args.by n) c.filling.out.items) all c.filling.invariant.word

pub filler-requires-clause-by : goal.filler-requires-clause-by
filler-requires-clause-by c = carry_kept c.args.maker.now c.filling.maker c.args.by c.filling.invariant.extends c.requires.by
