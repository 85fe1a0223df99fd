use Rattle.std.proofs.Common.{◌≡◌, ℕ, ◌/◌, ◌%◌, ◌^◌, List, Some, sym, subst, ◌∙◌}
use Rattle.btor2.specs.Items.{constant_of}
use Rattle.wide.specs.Lines.{item_of, number_of_digits}
use Rattle.celled.specs.Spots.{spots_of}
use Rattle.celled.specs.Steps.{AreOpen, InitsPut}
use Rattle.celled.proofs.OnLemmas.{split_on}
use Rattle.celled.proofs.InitStep.{init_by, constant_line, spot_at, cells_unset, begun_step}
use Rattle.celled.proofs.lines.inits_line.Goals as goal

pub line_digits-requires-clause-least : goal.line_digits-requires-clause-least
line_digits-requires-clause-least g c =
    let t = spots_of c.args.table.now in
    let b = init_by g.at.front t c.args.item.now.body (item_of c.args.constant.now) c.args.spot c.args.width c.requires.1.1.1 in
    (spot_at g.at.front t c.args.maker.now b.id c.args.width c.args.spot.first c.args.spot.count c.requires.0.wide_model c.know_list.ensures.model c.requires.0.stand b.wide b.first b.count).least

pub line_digits-requires-clause-most : goal.line_digits-requires-clause-most
line_digits-requires-clause-most g c =
    let t = spots_of c.args.table.now in
    let b = init_by g.at.front t c.args.item.now.body (item_of c.args.constant.now) c.args.spot c.args.width c.requires.1.1.1 in
    (spot_at g.at.front t c.args.maker.now b.id c.args.width c.args.spot.first c.args.spot.count c.requires.0.wide_model c.know_list.ensures.model c.requires.0.stand b.wide b.first b.count).width_most

pub line_digits-requires-clause-form : goal.line_digits-requires-clause-form
line_digits-requires-clause-form g c =
    let t = spots_of c.args.table.now in
    let b = init_by g.at.front t c.args.item.now.body (item_of c.args.constant.now) c.args.spot c.args.width c.requires.1.1.1 in
    (constant_line g.at.front c.args.item.now (item_of c.args.constant.now) b.s b.id b.v c.args.width c.requires.0.wide_model c.requires.1.0 b.is b.found b.wide).form

pub line_digits-requires-clause-fits : goal.line_digits-requires-clause-fits
line_digits-requires-clause-fits g c =
    let t = spots_of c.args.table.now in
    let b = init_by g.at.front t c.args.item.now.body (item_of c.args.constant.now) c.args.spot c.args.width c.requires.1.1.1 in
    (constant_line g.at.front c.args.item.now (item_of c.args.constant.now) b.s b.id b.v c.args.width c.requires.0.wide_model c.requires.1.0 b.is b.found b.wide).fits

pub nonzero_div-width : goal.nonzero_div-width
nonzero_div-width g c =
    let t = spots_of c.args.table.now in
    let b = init_by g.at.front t c.args.item.now.body (item_of c.args.constant.now) c.args.spot c.args.width c.requires.1.1.1 in
    (spot_at g.at.front t c.args.maker.now b.id c.args.width c.args.spot.first c.args.spot.count c.requires.0.wide_model c.know_list.ensures.model c.requires.0.stand b.wide b.first b.count).many

pub put_inits-requires : goal.put_inits-requires
put_inits-requires g c =
    let t = spots_of c.args.table.now in
    let b = init_by g.at.front t c.args.item.now.body (item_of c.args.constant.now) c.args.spot c.args.width c.requires.1.1.1 in
    let k = spot_at g.at.front t c.args.maker.now b.id c.args.width c.args.spot.first c.args.spot.count c.requires.0.wide_model c.know_list.ensures.model c.requires.0.stand b.wide b.first b.count in
    record {
      some = k.some;
      many = k.many;
      most = k.most;
      fits = k.fits;
      cells = k.cells;
      unset = subst (λ (n : ℕ). AreOpen c.args.maker.now n c.args.spot.count) (sym b.first) (subst (λ (n : ℕ). AreOpen c.args.maker.now (t.first b.id) n) (sym b.count)
          (cells_unset g.at.front t c.args.maker.now g.at.inputs g.at.states c.args.item.now b.s b.id b.v c.requires.0 c.know_list.ensures.model c.requires.1.0 b.is));
    }

pub returns : goal.returns
returns g c =
    let front = g.at.front in
    let t = spots_of c.args.table.now in
    let t' = spots_of c.put_place.new.table in
    let x = c.args.item.now in
    let b = init_by front t x.body (item_of c.args.constant.now) c.args.spot c.args.width c.requires.1.1.1 in
    let line = constant_line front x (item_of c.args.constant.now) b.s b.id b.v c.args.width c.requires.0.wide_model c.requires.1.0 b.is b.found b.wide in
    let number = number_of_digits c.in_ok-number.number.items in
    let word : constant_of front b.v ≡ Some (number % 2 ^ c.args.width) = line.of ∙ sym line.says ∙ c.in_ok-number.ensures in
    let put : InitsPut c.args.maker.now c.put_inits.new.maker (t.first b.id) (t.count b.id) (c.args.width / t.count b.id) number =
    subst (λ (n : ℕ). InitsPut c.args.maker.now c.put_inits.new.maker n (t.count b.id) (c.args.width / t.count b.id) number) b.first
    (subst (λ (n : ℕ). InitsPut c.args.maker.now c.put_inits.new.maker c.args.spot.first n (c.args.width / n) number) b.count
    (subst (λ (l : List ℕ). InitsPut c.args.maker.now c.put_inits.new.maker c.args.spot.first c.args.spot.count (c.args.width / c.args.spot.count) (number_of_digits l)) c.as_slice.ensures.value c.in_ok-put_inits.ensures)) in
    λ k. split_on front t c.args.maker.now g.at.inputs g.at.states x k t' c.put_inits.new.maker c.requires.0
    (begun_step front t c.args.maker.now x b.s b.id b.v c.args.width number t' c.put_inits.new.maker c.args.place k
    (record {
      wide_model = c.requires.0.wide_model;
      model = c.know_list.ensures.model;
      stand = c.requires.0.stand;
      accepted = c.requires.1.0;
      is = b.is;
      wide = b.wide;
      word = word;
      put = put;
      spots = c.in_ok-put_place.ensures;
      at = c.requires.1.1.0;
    }))
