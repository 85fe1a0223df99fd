use Rattle.std.proofs.Common.{◌≡◌, ◌<◌, length, sym, subst, arith, get_or}
use Rattle.std.proofs.lemmas.List.{length-take, get_or_read}
use Rattle.drup.specs.Marked.{Marked}
use Rattle.drup.proofs.TrailLemmas.{is_inside}
use Rattle.drup.proofs.trail.Trail.at.Goals as goal

pub returns-clause-inside : goal.returns-clause-inside
returns-clause-inside c =
    let inside = subst (λ (m : Marked). c.args.place < length m.order) (sym c.self.view_is) c.requires in
    subst (λ (m : Marked). c.index.result.now < length m.marks) c.self.view_is
    (let room : c.args.place < length c.self.inside.literals.items = omega (arith, inside, length-take c.self.inside.count c.self.inside.literals.items) in
    let e : c.index.result.now ≡ get_or c.self.inside.literals.items c.args.place 0 = get_or_read c.self.inside.literals.items c.args.place c.index.result.now room c.index.ensures 0 in
    let below : get_or c.self.inside.literals.items c.args.place 0 < length c.self.inside.marks.items = is_inside _ _ (c.self.invariant.marked c.args.place (omega (arith, inside, length-take c.self.inside.count c.self.inside.literals.items))) in
    omega (arith, e, below))
