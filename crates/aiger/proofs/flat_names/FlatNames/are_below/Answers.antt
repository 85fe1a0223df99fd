use Rattle.std.proofs.Common.{◌≡◌, ◌<◌, ◌-◌, List, ℕ, Some, length, slice_get, arith, sym, subst}
use Rattle.std.proofs.lemmas.Bool.Decides.{nat_tests}
use Rattle.std.proofs.lemmas.Map.Made.{keys_of-zip}
use Rattle.aiger.proofs.FlatNameLemmas.{below_by_last}
use Rattle.aiger.proofs.flat_names.FlatNames.are_below.Goals as goal

pub returns-in-Some-clause-below : goal.returns-in-Some-clause-below
returns-in-Some-clause-below c t =
    let low : c.in-Some.last.now < c.args.key = grind (arith, nat_tests) in
    let here : slice_get c.self.inside.keys.items (length c.self.inside.keys.items - 1) ≡ Some c.in-Some.last.now = subst (λ (ks : List ℕ). slice_get ks (length ks - 1) ≡ Some c.in-Some.last.now) c.deref.ensures.value (sym c.in-Some.ensures.value) in
    rw (← c.self.view_is, keys_of-zip c.self.inside.keys.items c.self.inside.names (sym c.self.invariant.as_many)) (below_by_last c.self.inside.keys.items c.in-Some.last.now c.args.key c.self.invariant.rising here low)

pub returns-in-Some-clause-rising : goal.returns-in-Some-clause-rising
returns-in-Some-clause-rising c = rw (← c.self.view_is, keys_of-zip c.self.inside.keys.items c.self.inside.names (sym c.self.invariant.as_many)) c.self.invariant.rising
