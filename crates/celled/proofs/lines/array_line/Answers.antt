use Rattle.std.proofs.Common.{ℕ, ◌/◌, Some, sym, ap, ◌∙◌, arith}
use Rattle.celled.specs.Spots.{spots_of}
use Rattle.celled.proofs.OnLemmas.{split_on}
use Rattle.celled.proofs.ArrayStep.{leaf_sized, leaf_sort_width, array_step, leaf_most}
use Rattle.celled.proofs.lines.array_line.Goals as goal

pub nonzero_div-count : goal.nonzero_div-count
nonzero_div-count g c = (leaf_sized g.at.front c.args.item.now c.args.is_input c.requires.1.1.1.0.0 c.args.width c.args.size c.requires.0.wide_model c.requires.1.1.1.0.1 c.requires.1.1.1.1.0 c.requires.1.1.1.1.1.0 c.requires.1.1.1.1.1.1).some

pub put_array-requires-clause-power : goal.put_array-requires-clause-power
put_array-requires-clause-power g c = (leaf_sized g.at.front c.args.item.now c.args.is_input c.requires.1.1.1.0.0 c.args.width c.args.size c.requires.0.wide_model c.requires.1.1.1.0.1 c.requires.1.1.1.1.0 c.requires.1.1.1.1.1.0 c.requires.1.1.1.1.1.1).power

pub put_array-requires-clause-some : goal.put_array-requires-clause-some
put_array-requires-clause-some g c = (leaf_sized g.at.front c.args.item.now c.args.is_input c.requires.1.1.1.0.0 c.args.width c.args.size c.requires.0.wide_model c.requires.1.1.1.0.1 c.requires.1.1.1.1.0 c.requires.1.1.1.1.1.0 c.requires.1.1.1.1.1.1).some

pub put_array-requires-clause-most : goal.put_array-requires-clause-most
put_array-requires-clause-most g c =
    let s = leaf_sized g.at.front c.args.item.now c.args.is_input c.requires.1.1.1.0.0 c.args.width c.args.size c.requires.0.wide_model c.requires.1.1.1.0.1 c.requires.1.1.1.1.0 c.requires.1.1.1.1.1.0 c.requires.1.1.1.1.1.1 in
    let whole = s.whole in
    let most = leaf_most g.at.front c.args.item.now c.args.is_input c.requires.1.1.1.0.0 c.args.width c.requires.0.wide_model c.requires.1.1.1.0.1 c.requires.1.1.1.1.0 in
    omega (arith, whole, most)

pub returns : goal.returns
returns g c =
    let front = g.at.front in
    let t = spots_of c.args.table.now in
    let t' = spots_of c.put.new.self in
    let x = c.args.item.now in
    let s = leaf_sized front x c.args.is_input c.requires.1.1.1.0.0 c.args.width c.args.size c.requires.0.wide_model c.requires.1.1.1.0.1 c.requires.1.1.1.1.0 c.requires.1.1.1.1.1.0 c.requires.1.1.1.1.1.1 in
    let sort = leaf_sort_width front c.args.is_input c.requires.1.1.1.0.0 x.body c.args.width c.requires.1.1.1.0.1 c.requires.1.1.1.1.0 in
    let count = c.args.width / c.args.size in
    split_on front t c.args.maker.now g.at.inputs g.at.states x c.args.size t' c.put_array.new.maker c.requires.0
    (array_step front t c.args.maker.now x c.args.is_input c.requires.1.1.1.0.0 c.in_ok-array.array.node c.in_ok-array.array.first count c.args.size t' c.put_array.new.maker c.args.place
    (record {
      accepted = c.requires.1.0;
      model = c.know_list-2.ensures.model;
      numbered = c.know_list-2.ensures.numbered;
      leaf = c.requires.1.1.1.0.1;
      width = sort ∙ ap (λ (k : ℕ). Some k) (sym s.whole);
      many = s.many;
      array = c.in_ok-array.ensures;
      spots = record { node_at = c.in_ok-put.ensures.node; first_at = c.in_ok-put.ensures.first; count_at = c.in_ok-put.ensures.count; line_at = c.in_ok-put.ensures.line };
      at = c.requires.1.1.0;
    }))
