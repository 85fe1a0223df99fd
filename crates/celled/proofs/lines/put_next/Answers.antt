use Rattle.std.proofs.Common.{ℕ, is_some, sym, ap, ◌∙◌}
use Rattle.btor2.specs.Items.{node_width}
use Rattle.celled.specs.Spots.{spots_of}
use Rattle.celled.proofs.CallLemmas.{next_node, next_is_by}
use Rattle.celled.proofs.lines.put_next.Goals as goal

pub width_at-width-requires : goal.width_at-width-requires
width_at-width-requires g c =
    let next = c.requires.1.1.1.1.1 in
    ap (λ (k : ℕ). is_some (node_width c.args.wide.now k)) c.from.ensures ∙ next_node g.at.front c.args.wide.now c.args.item.now g.at.after next.0 c.args.state c.args.value c.requires.1.0 next.1 c.requires.1.1.1.1.0

pub nexts_line-requires : goal.nexts_line-requires
nexts_line-requires g c =
    let next = c.requires.1.1.1.1.1 in
    let own = sym (ap (λ (k : ℕ). node_width c.args.wide.now k) c.from.ensures) ∙ c.width_at-width.ensures in (
      c.requires.0,
      (
        c.requires.1.0,
        (
          c.requires.1.1.0,
          next_is_by g.at.front c.args.wide.now (spots_of c.args.table.now) c.args.item.now g.at.after next.0 c.args.state c.args.value c.get-node.result.node c.get-spot.result c.width_at-width.result c.requires.1.0 next.1 c.requires.1.1.1.1.0 c.get-node.ensures.node
              c.get-spot.ensures.first c.get-spot.ensures.count c.if-spot-eq1.false own,
        ),
      ),
    )
