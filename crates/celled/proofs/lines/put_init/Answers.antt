use Rattle.std.proofs.Common.{ℕ, ◌<◌, is_some, length, sym, ap, subst, ◌∙◌}
use Rattle.btor2.specs.Items.{node_width}
use Rattle.wide.specs.Lines.{item_of}
use Rattle.celled.specs.Spots.{spots_of}
use Rattle.celled.proofs.CallLemmas.{constant_place, init_node, init_is_by}
use Rattle.celled.proofs.lines.put_init.Goals as goal

pub line_at-constant-requires : goal.line_at-constant-requires
line_at-constant-requires g c =
    let init = c.requires.1.1.1.1.1 in
    let at = constant_place g.at.front c.args.wide.now (spots_of c.args.table.now) c.args.maker.now g.at.inputs g.at.states c.args.item.now g.at.after init.0 c.args.state c.args.value c.requires.0 c.know_list.ensures.model c.requires.1.0 init.1 c.requires.1.1.1.1.0 in
    subst (λ (k : ℕ). k < length c.args.wide.now) (sym c.get.ensures.line) at.within

pub width_at-width-requires : goal.width_at-width-requires
width_at-width-requires g c =
    let init = c.requires.1.1.1.1.1 in
    ap (λ (k : ℕ). is_some (node_width c.args.wide.now k)) c.from.ensures ∙ init_node g.at.front c.args.wide.now c.args.item.now g.at.after init.0 c.args.state c.args.value c.requires.1.0 init.1 c.requires.1.1.1.1.0

pub inits_line-requires : goal.inits_line-requires
inits_line-requires g c =
    let init = c.requires.1.1.1.1.1 in
    let at = constant_place g.at.front c.args.wide.now (spots_of c.args.table.now) c.args.maker.now g.at.inputs g.at.states c.args.item.now g.at.after init.0 c.args.state c.args.value c.requires.0 c.know_list.ensures.model c.requires.1.0 init.1 c.requires.1.1.1.1.0 in
    let own = sym (ap (λ (k : ℕ). node_width c.args.wide.now k) c.from.ensures) ∙ c.width_at-width.ensures in (
      c.requires.0,
      (
        c.requires.1.0,
        (
          c.requires.1.1.0,
          init_is_by g.at.front c.args.wide.now (spots_of c.args.table.now) c.args.item.now g.at.after init.0 c.args.state c.args.value at (item_of c.line_at-constant.result.now) c.get-spot.result c.width_at-width.result c.get.result.line c.requires.1.0 init.1 c.requires.1.1.1.1.0 c.line_at-constant.ensures c.get.ensures.line
              c.get-spot.ensures.first c.get-spot.ensures.count c.if-spot-eq1.false own,
        ),
      ),
    )
