use Rattle.std.proofs.Common.{◌≡◌, ℕ, ◌+◌, ◌-◌, ◌/◌, ◌%◌, ◌^◌, ◌≤◌, List, subst, sym, ap, ◌∙◌, arith}
use Rattle.std.specs.List.{AllByRecursion}
use Rattle.pieces.specs.declared.node.Node.{Node}
use Rattle.pieces.specs.Nodes.{word_of, MakesWord}
use Rattle.pieces.specs.Cuts.{widths, IsCut, IsBehind}
use Rattle.pieces.proofs.NodeLemmas.{extends_same, extends_twice}
use Rattle.pieces.proofs.ListLemmas.{nodes_kept, behind_nodes, behind_bits}
use Rattle.pieces.proofs.CutLemmas.{behind_further, all_of_size, size_more, widths_more, cut_more, cut_none}
use Rattle.pieces.proofs.cuts.cut.Goals as goal

pub cutting-init : goal.cutting-init
cutting-init c =
    let none : c.args.width - c.args.width ≡ 0 = omega arith in
    let first : c.args.low ≡ c.args.low + (c.args.width - c.args.width) = omega arith in
    record {
      extends = extends_same c.args.maker.now;
      within = omega arith;
      behind = subst (λ (k : ℕ). IsBehind c.args.nodes.now k c.skip-inside.result.0.now c.skip-inside.result.1) first c.skip-inside.ensures.behind;
      first = c.skip-inside.ensures.first;
      word = cut_none c.args.maker.now c.args.nodes.now c.args.low (c.args.width - c.args.width) c.new-out.result.items none c.new-out.ensures.items;
      full = λ some. subst (λ (l : List Node). AllByRecursion (λ w. w ≡ c.args.size) (widths l)) (sym c.new-out.ensures.items) tt;
      cut = λ some. subst (λ (l : List Node). IsCut c.args.size (widths l)) (sym c.new-out.ensures.items) tt;
    }

pub bits-requires-clause-nodes : goal.bits-requires-clause-nodes
bits-requires-clause-nodes c =
    behind_nodes c.cutting.maker c.args.nodes.now (c.args.low + (c.args.width - c.cutting.left)) c.cutting.rest.now c.cutting.inside
    (nodes_kept c.args.maker.now c.cutting.maker c.args.nodes.now c.cutting.invariant.extends c.requires.nodes) c.cutting.invariant.behind

pub bits-requires-clause-within : goal.bits-requires-clause-within
bits-requires-clause-within c =
    let bits = behind_bits c.args.nodes.now (c.args.low + (c.args.width - c.cutting.left)) c.cutting.rest.now c.cutting.inside c.cutting.invariant.behind in
    let few : c.min-taken.result ≤ c.cutting.left = omega (arith, c.min-taken.ensures) in
    omega (arith, bits, few, c.requires.within, c.cutting.invariant.within)

pub cutting-preserved : goal.cutting-preserved
cutting-preserved c =
    let left = c.cutting.left in
    let taken = c.min-taken.result in
    let r = c.in_ok-node.node in
    let out = c.cutting.out.items in
    let inv = c.cutting.invariant in
    let few : taken ≤ left = omega (arith, c.min-taken.ensures) in
    let done : c.args.low + (c.args.width - left) + taken ≡ c.args.low + (c.args.width - (left - taken)) = omega (arith, few, inv.within) in
    let bits : c.args.width - left + taken ≡ c.args.width - (left - taken) = omega (arith, few, inv.within) in
    let some : 1 ≤ left = omega (arith, c.cutting-test.true) in
    let wide = c.in_ok-node.ensures.node.wide in
    record {
      extends = extends_twice c.args.maker.now c.cutting.maker c.bits.new.maker inv.extends c.in_ok-node.ensures.extends;
      within = omega (arith, inv.within);
      behind = subst (λ (k : ℕ). IsBehind c.args.nodes.now k c.skip-into.result.0.now c.skip-into.result.1) done
          (behind_further c.args.nodes.now (c.args.low + (c.args.width - left)) c.cutting.rest.now c.cutting.inside taken c.skip-into.result.0.now c.skip-into.result.1 inv.behind c.skip-into.ensures.behind);
      first = c.skip-into.ensures.first;
      word = subst (MakesWord c.bits.new.maker (c.args.width - (left - taken)) (λ g. word_of g c.args.nodes.now / 2 ^ c.args.low % 2 ^ (c.args.width - (left - taken)))) (sym c.in_ok-keep.ensures.ok)
          (cut_more c.cutting.maker c.bits.new.maker c.args.nodes.now c.cutting.rest.now out c.args.low (c.args.width - left) taken (c.args.width - (left - taken)) c.cutting.inside r
          (nodes_kept c.args.maker.now c.cutting.maker c.args.nodes.now inv.extends c.requires.nodes) c.in_ok-node.ensures.extends inv.behind bits inv.word c.in_ok-node.ensures.node);
      full = λ more.
          let whole : taken ≡ c.args.size = omega (arith, c.min-taken.ensures, more) in
          subst (λ (l : List ℕ). AllByRecursion (λ w. w ≡ c.args.size) l) (sym (ap widths c.in_ok-keep.ensures.ok ∙ widths_more out r)) (size_more c.args.size r.width (widths out) (inv.full some) (wide ∙ whole));
      cut = λ none.
          let least : 1 ≤ r.width = omega (arith, wide, c.min-taken.ensures, some, c.requires.least) in
          let most : r.width ≤ c.args.size = omega (arith, wide, c.min-taken.ensures) in
          subst (IsCut c.args.size) (sym (ap widths c.in_ok-keep.ensures.ok ∙ widths_more out r)) (all_of_size c.args.size r.width (widths out) (inv.full some) least most);
    }

pub returns-clause-word : goal.returns-clause-word
returns-clause-word c =
    let all : c.args.width - c.cutting.left ≡ c.args.width = omega (arith, c.cutting-test.false) in
    subst (λ (k : ℕ). MakesWord c.cutting.maker k (λ g. word_of g c.args.nodes.now / 2 ^ c.args.low % 2 ^ k) c.cutting.out.items) all c.cutting.invariant.word

pub returns-clause-cut : goal.returns-clause-cut
returns-clause-cut c = c.cutting.invariant.cut (omega (arith, c.cutting-test.false))
