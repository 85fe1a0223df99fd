use Rattle.std.proofs.Common.{◌≡◌, ◌<◌, false, length, sym, subst, arith}
use Rattle.drup.specs.Marked.{Marked, set_of}
use Rattle.drup.proofs.TrailLemmas.{has_room, IsOrder-push, pushed_is}
use Rattle.drup.proofs.trail.Trail.push.Goals as goal

pub index_mut-requires-2 : goal.index_mut-requires-2
index_mut-requires-2 c =
    let inside = subst (λ (m : Marked). c.args.literal < length m.marks) (sym c.self.view_is) c.requires.inside in
    let fresh = subst (λ (m : Marked). set_of m c.args.literal ≡ false) (sym c.self.view_is) c.requires.fresh in
    omega (arith, has_room _ _ _ _ c.self.invariant inside fresh)

pub invariant_of-self : goal.invariant_of-self
invariant_of-self c =
    let inside = subst (λ (m : Marked). c.args.literal < length m.marks) (sym c.self.view_is) c.requires.inside in
    let fresh = subst (λ (m : Marked). set_of m c.args.literal ≡ false) (sym c.self.view_is) c.requires.fresh in
    IsOrder-push _ _ _ _ c.self.invariant inside fresh

pub returns : goal.returns
returns c =
    let inside = subst (λ (m : Marked). c.args.literal < length m.marks) (sym c.self.view_is) c.requires.inside in
    let fresh = subst (λ (m : Marked). set_of m c.args.literal ≡ false) (sym c.self.view_is) c.requires.fresh in
    rw (← c.self.view_is) (pushed_is c.self.inside.marks.items c.self.inside.literals.items c.self.inside.count c.args.literal (has_room _ _ _ _ c.self.invariant inside fresh))
