use Rattle.std.proofs.Common.{◌≡◌, length, rules, sym}
use Rattle.btor2.proofs.LookUps.{position_in_front, position_behind}
use Rattle.btor2.proofs.model.Model.position.Goals as goal

pub returns-then-place-self : goal.returns-then-place-self
returns-then-place-self c =
    let known = c.self.invariant in
    rw (← c.self.view_is) (position_in_front c.self.inside.items.items c.args.id c.self.inside.in_place known.well_formed known.few known.front c.ranges.id.fits c.if-place-self.true)

pub returns-then-self-len : goal.returns-then-self-len
returns-then-self-len c =
    let known = c.self.invariant in
    let all : c.self.inside.in_place ≡ length c.self.inside.items.items = search rules in
    rw (← c.self.view_is) (sym (position_behind c.self.inside.items.items c.args.id c.self.inside.in_place known.well_formed known.few known.front c.ranges.id.fits c.if-place-self.false all))
