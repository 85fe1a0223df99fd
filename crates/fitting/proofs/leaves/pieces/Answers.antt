use Rattle.std.proofs.Common.{◌≡◌, ℕ, ◌≤◌, ◌<◌, List, sym, ap, ap₂, subst, ◌∙◌, arith}
use Rattle.std.specs.List.{AllByRecursion}
use Rattle.pieces.specs.Nodes.{bits_in, AreNodes}
use Rattle.pieces.specs.Cuts.{widths, IsCut}
use Rattle.pieces.proofs.ListLemmas.{bits_more, nodes_more}
use Rattle.pieces.proofs.CutLemmas.{all_of_size, size_more, widths_more}
use Rattle.fitting.specs.Names.{piece_symbol}
use Rattle.fitting.specs.Steps.{AddsLeaves}
use Rattle.fitting.proofs.NameLemmas.{many_names, wide_is_many}
use Rattle.fitting.proofs.LineLemmas.{nodes_later, leaf_next}
use Rattle.fitting.proofs.leaves.pieces.Goals as goal

pub loop-left-preserved : goal.loop-left-preserved
loop-left-preserved c =
    let inv = c.loop-left.invariant in
    let left = c.loop-left.left in
    let taken = c.min-taken.result in
    let r = c.in_ok-node.node in
    let out = c.loop-left.out.items in
    let mid = c.loop-left.maker in
    let new = c.leaf.new.maker in
    let is = c.in_ok-keep.ensures.ok in
    let adds = c.in_ok-node.ensures.adds in
    let wide = c.in_ok-node.ensures.node.1 in
    let few : taken ≤ left = omega (arith, c.min-taken.ensures) in
    let some : 1 ≤ left = omega (arith, c.loop-left-test.true) in
    let most : taken ≤ 64 = omega (arith, c.min-taken.ensures) in
    record {
      nodes = subst (AreNodes new) (sym is) (nodes_more new out r (nodes_later mid new adds.more out adds.is inv.nodes) c.in_ok-node.ensures.node.0);
      width = (let more = ap bits_in is ∙ bits_more out r in let sum = inv.width in omega (arith, more, wide, sum, few));
      adds = (let sum = inv.width in
          leaf_next c.args.is_input c.args.maker.now mid new out c.keep.new.list.items r c.args.symbol.now c.in_ok-name.name is (c.in_ok-name.ensures.symbol ∙ ap₂ (piece_symbol c.args.symbol.now) (omega (arith, sum)) (sym wide)) inv.adds adds);
      full = λ more.
          let whole : taken ≡ 64 = omega (arith, c.min-taken.ensures, more) in
          subst (λ (l : List ℕ). AllByRecursion (λ w. w ≡ 64) l) (sym (ap widths is ∙ widths_more out r)) (size_more 64 r.width (widths out) (inv.full some) (wide ∙ whole));
      cut = λ none.
          let least : 1 ≤ r.width = omega (arith, wide, c.min-taken.ensures, some) in
          let small : r.width ≤ 64 = omega (arith, wide, most) in
          subst (IsCut 64) (sym (ap widths is ∙ widths_more out r)) (all_of_size 64 r.width (widths out) (inv.full some) least small);
    }

pub returns-clause-adds : goal.returns-clause-adds
returns-clause-adds c =
    let inv = c.loop-left.invariant in
    let out = c.loop-left.out.items in
    let cut = inv.cut (omega (arith, c.loop-left-test.false)) in
    let sum = inv.width in
    let many : 64 < bits_in out = omega (arith, sum, c.loop-left-test.false, c.requires.least) in
    subst (AddsLeaves c.args.is_input c.args.maker.now c.loop-left.maker out) (sym (many_names c.args.symbol.now out (wide_is_many out cut many))) inv.adds
