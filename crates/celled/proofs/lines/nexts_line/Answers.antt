use Rattle.std.proofs.Common.{ℕ, ◌/◌, Some, sym, ap, subst, ◌∙◌}
use Rattle.btor2.specs.Items.{node_width}
use Rattle.celled.specs.Spots.{spots_of}
use Rattle.celled.specs.Steps.{AreLoose, NextsPut}
use Rattle.celled.proofs.OnLemmas.{split_on}
use Rattle.celled.proofs.InitStep.{spot_at}
use Rattle.celled.proofs.NextStep.{next_by, value_node, cells_free, followed_step}
use Rattle.celled.proofs.lines.nexts_line.Goals as goal

pub nonzero_div-width : goal.nonzero_div-width
nonzero_div-width g c =
    let t = spots_of c.args.table.now in
    let b = next_by g.at.front t c.args.item.now.body c.args.node c.args.spot c.args.width c.requires.1.1.1 in
    (spot_at g.at.front t c.args.maker.now b.id c.args.width c.args.spot.first c.args.spot.count c.requires.0.wide_model c.know_list.ensures.model c.requires.0.stand b.wide b.first b.count).many

pub put_nexts-requires : goal.put_nexts-requires
put_nexts-requires g c =
    let t = spots_of c.args.table.now in
    let b = next_by g.at.front t c.args.item.now.body c.args.node c.args.spot c.args.width c.requires.1.1.1 in
    let k = spot_at g.at.front t c.args.maker.now b.id c.args.width c.args.spot.first c.args.spot.count c.requires.0.wide_model c.know_list.ensures.model c.requires.0.stand b.wide b.first b.count in
    let wide = value_node g.at.front t c.args.maker.now c.args.item.now b.s b.id b.v c.args.width c.requires.0.wide_model c.know_list.ensures.model c.requires.0.stand c.requires.1.0 b.is b.wide in
    record {
      some = k.some;
      many = k.many;
      most = k.most;
      node = ap (node_width c.args.maker.now) (sym b.value) ∙ wide ∙ ap (λ (n : ℕ). Some n) (sym k.whole);
      fits = k.fits;
      cells = k.cells;
      loose = subst (λ (n : ℕ). AreLoose c.args.maker.now n c.args.spot.count) (sym b.first) (subst (λ (n : ℕ). AreLoose c.args.maker.now (t.first b.id) n) (sym b.count)
          (cells_free g.at.front t c.args.maker.now g.at.inputs g.at.states c.args.item.now b.s b.id b.v c.requires.0 c.know_list.ensures.model c.requires.1.0 b.is));
    }

pub returns : goal.returns
returns g c =
    let front = g.at.front in
    let t = spots_of c.args.table.now in
    let t' = spots_of c.put_place.new.table in
    let x = c.args.item.now in
    let b = next_by front t x.body c.args.node c.args.spot c.args.width c.requires.1.1.1 in
    let put : NextsPut c.args.maker.now c.put_nexts.new.maker (t.first b.id) (t.count b.id) (c.args.width / t.count b.id) (t.node b.v) =
    subst (λ (n : ℕ). NextsPut c.args.maker.now c.put_nexts.new.maker n (t.count b.id) (c.args.width / t.count b.id) (t.node b.v)) b.first
    (subst (λ (n : ℕ). NextsPut c.args.maker.now c.put_nexts.new.maker c.args.spot.first n (c.args.width / n) (t.node b.v)) b.count
    (subst (λ (n : ℕ). NextsPut c.args.maker.now c.put_nexts.new.maker c.args.spot.first c.args.spot.count (c.args.width / c.args.spot.count) n) (sym b.value) c.in_ok-put_nexts.ensures)) in
    λ k. split_on front t c.args.maker.now g.at.inputs g.at.states x k t' c.put_nexts.new.maker c.requires.0
    (followed_step front t c.args.maker.now x b.s b.id b.v c.args.width t' c.put_nexts.new.maker c.args.place k
    (record {
      wide_model = c.requires.0.wide_model;
      model = c.know_list.ensures.model;
      stand = c.requires.0.stand;
      accepted = c.requires.1.0;
      is = b.is;
      wide = b.wide;
      put = put;
      spots = c.in_ok-put_place.ensures;
      at = c.requires.1.1.0;
    }))
