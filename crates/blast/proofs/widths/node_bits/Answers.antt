use Rattle.std.proofs.Common.{◌≡◌, ℕ, Option, Some, None, is_some, unwrap_or, sym, ap, ◌∙◌}
use Rattle.std.proofs.lemmas.Bool.{false≢true}
use Rattle.btor2.specs.Items.{node_width, position_of}
use Rattle.btor2.specs.Lists.{width_at}
use Rattle.btor2.proofs.LookUps.{place_below}
use Rattle.blast.proofs.WidthLemmas.{width_at-position, no_node}
use Rattle.blast.proofs.widths.node_bits.Goals as goal

pub width_of-requires : goal.width_of-requires
width_of-requires c = place_below c.args.model.now c.args.id c.in-Some.place (ap (position_of c.args.model.now) (sym c.from.ensures) ∙ sym c.in-Some.ensures)

pub unreachable-requires : goal.unreachable-requires
unreachable-requires c =
    let none : width_at c.args.model.now c.in-Some.place ≡ None = sym c.in-None-width_of.ensures in
    false≢true (ap is_some (sym none ∙ width_at-position c.args.model.now c.args.id c.in-Some.place (ap (position_of c.args.model.now) (sym c.from.ensures) ∙ sym c.in-Some.ensures)) ∙ c.requires)

pub unreachable-requires-in-None : goal.unreachable-requires-in-None
unreachable-requires-in-None c = false≢true (sym (no_node c.args.model.now c.args.id (ap (position_of c.args.model.now) (sym c.from.ensures) ∙ sym c.in-None.ensures)) ∙ c.requires)

pub returns-clause-value : goal.returns-clause-value
returns-clause-value c =
    let some : Some c.in-Some-width_of.width ≡ node_width c.args.model.now c.args.id = c.in-Some-width_of.ensures ∙ width_at-position c.args.model.now c.args.id c.in-Some.place (ap (position_of c.args.model.now) (sym c.from.ensures) ∙ sym c.in-Some.ensures) in
    c.bits.ensures.same ∙ ap (λ (o : Option ℕ). unwrap_or o 0) some
